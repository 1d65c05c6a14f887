-- `c_operations::is_awaiting` meets its contract.
use mathlib.Core.Path.{sym}
use Prim.Native.Nat.{◌+◌, ◌*◌, ◌/◌, ◌%◌}
use native.Mathlib.Omega.{arith}
use lib.Dec.{eqb}
use borrow.Author.Tests.{eqb-true}
use Rattle.common.proofs.Choice.{and_left, and_right, unlike}
use Rattle.c_operations.proofs.Keys.{parts}
use Rattle.c_operations.proofs.is_awaiting.Goals as goal

pub returns-then-n-ne0 : goal.returns-then-n-ne0
returns-then-n-ne0 c = λ e. absurd (unlike (sym e))

pub returns : goal.returns
returns c = λ e.
    let n = c.args.n in
    let f = c.args.phase in
    let q = c.requires in
    let k = c.key_of-key.ensures in
    let h = parts n c.key_of-key.result k.0 k.1 k.2 k.3 in
    let none = c.if-n-ne0.false in
    let x = eqb (c.key_of-key.result % 2048) 1 in
    let y = eqb (c.key_of-key.result / 16384) (4 * f + 2) in
    let low = eqb-true (c.key_of-key.result % 2048) 1 (and_left x y e) in
    let high = eqb-true (c.key_of-key.result / 16384) (4 * f + 2) (and_right x y e) in
    record {
      phase = omega (arith, h.high, high, h.few, q);
      mode = omega (arith, h.low, low, h.small);
      unit = omega (arith, none);
      suspend = omega (arith, h.high, high, q);
      low = omega (arith, h.low, low, h.small);
      ready = omega (arith, h.high, high, h.few, q);
      left = omega (arith, none);
      address = omega (arith, none);
    }
