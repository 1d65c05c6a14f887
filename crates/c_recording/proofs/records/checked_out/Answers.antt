use Rattle.c_recording.proofs.records.checked_out.Goals as goal

pub returns : goal.returns
returns c = simp (c.state_back.ensures, c.flag_out.ensures)
