-- `knots::in_range` meets its contract.
use lib.IntN.{ℤ, pos, negsuc}
use mir.Syntax.{w32}
use mir.ValLaws.{to_z-of_z}
use lib.Signed.{le_z}
use mathlib.Core.Bool.{◌&&◌}
use mathlib.Core.Path.{ap, ap₂, ◌∙◌}
use Rattle.reading_table.specs.Table.{in_range}
use Rattle.c_words.proofs.knots.in_range.Goals as goal

pub returns : goal.returns
unfolding in_range
returns c = ap₂ ◌&&◌ c.at_most-a.ensures c.at_most-b.ensures ∙ ap (λ (v : ℤ). le_z (negsuc 9999) v && le_z v (pos 80000)) (to_z-of_z w32 c.args.v c.ranges.v)
