use Rattle.recording_walk.proofs.went_by.Goals as goal

pub returns : goal.returns
returns c = simp c.place_after.ensures
