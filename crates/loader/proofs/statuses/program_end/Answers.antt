use mathlib.Core.Path.{sym, ◌∙◌}
use Rattle.loader.specs.Statuses.{program_end}
use Rattle.loader.proofs.statuses.program_end.Goals as goal

pub returns-then-supply_end : goal.returns-then-supply_end
unfolding program_end
returns-then-supply_end c = simp (sym c.supply_end.ensures ∙ c.if-supply_end.true)

pub returns-then-both_errors : goal.returns-then-both_errors
unfolding program_end
returns-then-both_errors c = simp (sym c.both_errors.ensures ∙ c.if-both_errors.true, sym c.supply_end.ensures ∙ c.if-supply_end.false)

pub returns-then-program_error : goal.returns-then-program_error
unfolding program_end
returns-then-program_error c = simp (sym c.program_error.ensures ∙ c.if-program_error.true, sym c.both_errors.ensures ∙ c.if-both_errors.false, sym c.supply_end.ensures ∙ c.if-supply_end.false)

pub returns : goal.returns
unfolding program_end
returns c = simp (sym c.program_error.ensures ∙ c.if-program_error.false, sym c.both_errors.ensures ∙ c.if-both_errors.false, sym c.supply_end.ensures ∙ c.if-supply_end.false)
