-- `loader_held_quick::tried` meets its contract.
use mathlib.Core.Path.{sym, ◌∙◌}
use native.Mathlib.Omega.{arith}
use Rattle.common.proofs.Choice.{if_true, if_false}
use Rattle.loader_held_quick.proofs.tried.Goals as goal

pub returns-then-is_listed : goal.returns-then-is_listed
returns-then-is_listed c = (sym (if_true _ _ _ (sym c.is_listed.ensures ∙ c.if-is_listed.true)), omega arith)

pub returns : goal.returns
returns c = (sym (if_false _ _ _ (sym c.is_listed.ensures ∙ c.if-is_listed.false)), omega arith)
