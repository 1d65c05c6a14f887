-- `c_operations::is_suspended` meets its contract.
use mathlib.Core.Path.{sym}
use Prim.Native.Nat.{◌/◌, ◌<◌}
use native.Mathlib.Omega.{arith}
use mathlib.Core.Bool.{◌&&◌}
use lib.Dec.{eqb, leb}
use borrow.Author.Tests.{eqb-true, leb-true}
use Rattle.common.proofs.Choice.{and_left, and_right, unlike}
use Rattle.c_operations.proofs.Keys.{parts}
use Rattle.c_operations.proofs.is_suspended.Goals as goal

pub returns-then-n-eq0 : goal.returns-then-n-eq0
returns-then-n-eq0 c = λ e i. absurd (unlike (sym e))

pub returns-then-key-gt1 : goal.returns-then-key-gt1
returns-then-key-gt1 c = λ e i. absurd (unlike (sym e))

pub returns : goal.returns
returns c = λ e i.
    let n = c.args.n in
    let d = c.args.d in
    let k = c.key_of-key.ensures in
    let h = parts n c.key_of-key.result k.0 k.1 k.2 k.3 in
    let more : 0 < n.left = omega (arith, c.if-n-eq0.false) in
    let low = c.if-key-gt1.false in
    let x = eqb (c.key_of-key.result / 16384) 23 in
    let y = eqb n.data 0 in
    let z = leb n.left d.erase in
    let high = eqb-true (c.key_of-key.result / 16384) 23 (and_left x y (and_left (x && y) z e)) in
    record {
      phase = omega (arith, h.high, high, h.few);
      mode = omega (arith, h.low, low, h.small);
      unit = eqb-true n.data 0 (and_right x y (and_left (x && y) z e));
      suspend = omega (arith, h.high, high);
      low = omega (arith, h.low, low, h.small);
      held = omega (arith, h.high, high, h.few);
      more = more;
      most = leb-true n.left d.erase (and_right (x && y) z e);
      inside = i;
    }
