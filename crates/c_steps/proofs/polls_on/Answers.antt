-- `c_steps::polls_on` meets its contract.
use mathlib.Core.Path.{sym}
use mathlib.Core.Bool.{false}
use native.Mathlib.Omega.{arith}
use borrow.Author.Tests.{ltb-true}
use Rattle.common.proofs.Choice.{unlike}
use Rattle.c_steps.proofs.polls_on.Goals as goal

pub returns-then-v-gt127 : goal.returns-then-v-gt127
returns-then-v-gt127 c = λ e. absurd (unlike (sym e))

pub returns : goal.returns
returns c = λ e. (omega (arith, c.if-v-gt127.false), ltb-true _ _ e)
