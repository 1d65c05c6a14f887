use mathlib.Core.Path.{sym, ◌∙◌}
use Rattle.loader.specs.Statuses.{erase_end}
use Rattle.loader.proofs.statuses.erase_end.Goals as goal

pub returns-then-supply_end : goal.returns-then-supply_end
unfolding erase_end
returns-then-supply_end c = simp (sym c.supply_end.ensures ∙ c.if-supply_end.true)

pub returns-then-both_errors : goal.returns-then-both_errors
unfolding erase_end
returns-then-both_errors c = simp (sym c.both_errors.ensures ∙ c.if-both_errors.true, sym c.supply_end.ensures ∙ c.if-supply_end.false)

pub returns-then-erase_error : goal.returns-then-erase_error
unfolding erase_end
returns-then-erase_error c = simp (sym c.erase_error.ensures ∙ c.if-erase_error.true, sym c.both_errors.ensures ∙ c.if-both_errors.false, sym c.supply_end.ensures ∙ c.if-supply_end.false)

pub returns : goal.returns
unfolding erase_end
returns c = simp (sym c.erase_error.ensures ∙ c.if-erase_error.false, sym c.both_errors.ensures ∙ c.if-both_errors.false, sym c.supply_end.ensures ∙ c.if-supply_end.false)
