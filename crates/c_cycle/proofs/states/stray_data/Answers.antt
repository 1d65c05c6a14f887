use mathlib.Core.Path.{refl}
use Rattle.c_cycle.specs.Values.{stray_data}
use Rattle.c_cycle.proofs.states.stray_data.Goals as goal

pub returns : goal.returns
unfolding stray_data
returns c = refl
