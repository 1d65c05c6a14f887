use Rattle.loader_steps.specs.Front.{barred_pins}
use Rattle.loader_steps.proofs.front.barred_pins.Goals as goal

pub returns : goal.returns
unfolding barred_pins
returns c = simp (c.rp_low.ensures, c.bad_pins.ensures)
