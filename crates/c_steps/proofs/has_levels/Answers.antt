-- `c_steps::has_levels` meets its contract.
use mathlib.Core.Path.{sym}
use mathlib.Core.Bool.{true, false}
use native.Mathlib.Omega.{arith}
use borrow.Author.Tests.{leb-true}
use Rattle.common.proofs.Choice.{unlike}
use Rattle.device.specs.Parts.{is_large}
use Rattle.c_steps.proofs.Taking.{at_twelve_lem, at_none, at_five_lem, unbarred}
use Rattle.c_steps.proofs.has_levels.Goals as goal

pub returns-then-rp-eq0 : goal.returns-then-rp-eq0
returns-then-rp-eq0 c = λ e part. absurd (unlike (sym e))

pub returns-then-rp-gt2 : goal.returns-then-rp-gt2
returns-then-rp-gt2 c = λ e part. absurd (unlike (sym e))

pub returns-then-wp-gt1 : goal.returns-then-wp-gt1
returns-then-wp-gt1 c = λ e part. absurd (unlike (sym e))

pub returns-then-vpp-ge11400 : goal.returns-then-vpp-ge11400
returns-then-vpp-ge11400 c =
    λ e part.
    let a = c.args in
    unbarred part a.rp a.wp a.vpp (let u = c.if-rp-eq0.false in omega (arith, u)) (omega (arith, c.if-rp-gt2.false)) (omega (arith, c.if-wp-gt1.false)) (at_twelve_lem (is_large part) a.vpp c.if-vpp-ge11400.true (leb-true a.vpp 12600 e))

pub returns-then-vpp-le1500 : goal.returns-then-vpp-le1500
returns-then-vpp-le1500 c =
    λ e part.
    let a = c.args in
    unbarred part a.rp a.wp a.vpp (let u = c.if-rp-eq0.false in omega (arith, u)) (omega (arith, c.if-rp-gt2.false)) (omega (arith, c.if-wp-gt1.false)) (at_none (is_large part) a.vpp c.if-vpp-le1500.true)

pub returns-then-vpp-lt4500 : goal.returns-then-vpp-lt4500
returns-then-vpp-lt4500 c = λ e part. absurd (unlike (sym e))

pub returns : goal.returns
returns c =
    λ e part.
    let a = c.args in
    unbarred part a.rp a.wp a.vpp (let u = c.if-rp-eq0.false in omega (arith, u)) (omega (arith, c.if-rp-gt2.false)) (omega (arith, c.if-wp-gt1.false)) (at_five_lem (is_large part) a.vpp (omega (arith, c.if-vpp-lt4500.false)) (leb-true a.vpp 5500 e))
