use mathlib.Core.Path.{sym, ◌∙◌}
use Rattle.units.specs.Units.{lent_in}
use Rattle.units.proofs.lent_in.Goals as goal

pub returns-then-is_torn : goal.returns-then-is_torn
unfolding lent_in
returns-then-is_torn c = simp (sym c.is_torn.ensures ∙ c.if-is_torn.true)

pub returns : goal.returns
unfolding lent_in
returns c = simp (c.units_in.ensures, sym c.is_torn.ensures ∙ c.if-is_torn.false)
