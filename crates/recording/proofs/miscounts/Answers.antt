use Rattle.recording.proofs.miscounts.Goals as goal

pub returns : goal.returns
returns c = simp c.outside.ensures
