-- `loader_blocks::unlike` meets its contract.
use mathlib.Core.Path.{sym}
use native.Mathlib.Omega.{arith}
use borrow.Author.Tests.{eq-eqb, ne_eqb}
use Rattle.common.proofs.Choice.{if_true, if_false}
use Rattle.loader_blocks.proofs.unlike.Goals as goal

pub returns-then-a-b : goal.returns-then-a-b
returns-then-a-b c = (sym (if_true _ 0 1 (eq-eqb _ _ c.if-a-b.true)), omega arith)

pub returns : goal.returns
returns c = (sym (if_false _ 0 1 (ne_eqb _ _ c.if-a-b.false)), omega arith)
