use mathlib.Core.Path.{refl}
use Rattle.wear.proofs.no_tally.Goals as goal

pub returns : goal.returns
returns c = refl
