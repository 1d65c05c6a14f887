use Rattle.recording.proofs.device_for.Goals as goal

pub returns : goal.returns
returns c = simp (c.timed.ensures, c.time_of.ensures)
