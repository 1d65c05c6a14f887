-- `c_steps::address_in` meets its contract.
use mathlib.Core.Path.{sym}
use Rattle.common.proofs.Choice.{if_true}
use Rattle.c_steps.proofs.address_in.Goals as goal

pub returns-then-here : goal.returns-then-here
returns-then-here c = sym (if_true _ _ _ c.if-here.true)
