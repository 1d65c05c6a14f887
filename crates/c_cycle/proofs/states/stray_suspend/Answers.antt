use mathlib.Core.Path.{refl}
use Rattle.c_cycle.specs.Values.{stray_suspend}
use Rattle.c_cycle.proofs.states.stray_suspend.Goals as goal

pub returns : goal.returns
unfolding stray_suspend
returns c = refl
