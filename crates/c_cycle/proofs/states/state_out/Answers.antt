use Rattle.c_cycle.proofs.states.state_out.Goals as goal

pub returns : goal.returns
returns c = simp (c.wear_out.ensures, c.data_out.ensures, c.suspend_left.ensures, c.phase_out.ensures, c.mode_out.ensures)
