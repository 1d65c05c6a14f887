use Rattle.recording_walk.proofs.wrong_length.Goals as goal

pub returns : goal.returns
returns c = simp (c.size.ensures, c.lent_in.ensures)
