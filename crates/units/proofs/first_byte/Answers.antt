use mathlib.Core.Path.{refl}
use Rattle.units.proofs.first_byte.Goals as goal

pub returns : goal.returns
returns c = refl
