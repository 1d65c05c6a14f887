use mathlib.Core.Path.{refl}
use Rattle.units.proofs.is_torn.Goals as goal

pub returns : goal.returns
returns c = refl
