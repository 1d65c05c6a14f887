-- `knots::tenths_fit` meets its contract.
use lib.IntN.{ℤ, pos, negsuc}
use mir.Syntax.{w32}
use mir.ValLaws.{to_z-of_z}
use lib.Signed.{le_z}
use mathlib.Core.Bool.{◌&&◌}
use mathlib.Core.Path.{ap, ap₂, ◌∙◌}
use Rattle.c_words.specs.Knots.{tenths_fit}
use Rattle.c_words.proofs.knots.tenths_fit.Goals as goal

pub returns : goal.returns
unfolding tenths_fit
returns c = ap₂ ◌&&◌ c.at_most-a.ensures c.at_most-b.ensures ∙ ap (λ (v : ℤ). le_z (negsuc 32767) v && le_z v (pos 32767)) (to_z-of_z w32 c.args.t c.ranges.t)
