use Rattle.c_cycle.specs.Values.{no_state}
use Rattle.c_cycle.proofs.states.no_state.Goals as goal

pub returns : goal.returns
unfolding no_state
returns c = simp (c.stray_suspend.ensures, c.stray_data.ensures)
