-- `interpolate` meets its contract: the operations of the code are those of the formula, in its order.
use mathlib.Core.Path.{refl}
use Rattle.reading_pair.proofs.interpolate.Goals as goal

pub returns : goal.returns
returns c = refl
