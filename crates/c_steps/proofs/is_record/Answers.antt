-- `c_steps::is_record` meets its contract.
use mathlib.Core.Path.{sym}
use mathlib.Core.Bool.{false}
use native.Mathlib.Omega.{arith}
use borrow.Author.Tests.{ltb-true}
use Rattle.common.proofs.Choice.{unlike}
use Rattle.c_steps.proofs.is_record.Goals as goal

pub returns-then-wide-last : goal.returns-then-wide-last
returns-then-wide-last c = λ e. absurd (unlike (sym e))

pub returns-then-l-gt8 : goal.returns-then-l-gt8
returns-then-l-gt8 c = λ e. absurd (unlike (sym e))

pub returns-then-l-gt65534 : goal.returns-then-l-gt65534
returns-then-l-gt65534 c = λ e. absurd (unlike (sym e))

pub returns-then-l-ne0 : goal.returns-then-l-ne0
returns-then-l-ne0 c = λ e. absurd (unlike (sym e))

pub returns-then-l-ne0-2 : goal.returns-then-l-ne0-2
returns-then-l-ne0-2 c = λ e. absurd (unlike (sym e))

pub returns-then-l-gt1 : goal.returns-then-l-gt1
returns-then-l-gt1 c = λ e. absurd (unlike (sym e))

pub returns : goal.returns
returns c =
    λ e. (
      omega (arith, c.if-wide-last.false, c.wide-last.ensures.0, c.wide.ensures.0),
      omega (arith, c.if-l-gt8.false),
      omega (arith, c.if-l-gt65534.false),
      (let u = c.if-l-ne0.false in omega (arith, u)),
      (let u = c.if-l-ne0-2.false in omega (arith, u)),
      omega (arith, c.if-l-gt1.false),
      (let q = ltb-true c.args.l.stage 12 e in omega (arith, q)),
    )
