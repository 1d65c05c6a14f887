-- `c_steps::data_in` meets its contract.
use mathlib.Core.Path.{sym, ◌∙◌}
use Rattle.common.proofs.Choice.{if_true}
use Rattle.c_steps.proofs.data_in.Goals as goal

pub returns-then-own : goal.returns-then-own
returns-then-own c = c.get_unit.ensures.0 ∙ sym (if_true _ _ _ c.if-own.true)
