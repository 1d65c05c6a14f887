-- `c_operations::is_suspending` meets its contract.
use mathlib.Core.Path.{sym}
use Prim.Native.Nat.{◌/◌, ◌%◌, ◌<◌}
use native.Mathlib.Omega.{arith}
use mathlib.Core.Bool.{◌&&◌}
use lib.Dec.{eqb, leb}
use borrow.Author.Tests.{eqb-true, leb-true}
use Rattle.common.proofs.Choice.{and_left, and_right, unlike}
use Rattle.c_operations.proofs.Keys.{parts}
use Rattle.c_operations.proofs.is_suspending.Goals as goal

pub returns-then-n-eq0 : goal.returns-then-n-eq0
returns-then-n-eq0 c = λ e i. absurd (unlike (sym e))

pub returns-then-d-n : goal.returns-then-d-n
returns-then-d-n c = λ e i. absurd (unlike (sym e))

pub returns-then-n-eq0-2 : goal.returns-then-n-eq0-2
returns-then-n-eq0-2 c = λ e i. absurd (unlike (sym e))

pub returns-then-key-ne1 : goal.returns-then-key-ne1
returns-then-key-ne1 c = λ e i. absurd (unlike (sym e))

pub returns : goal.returns
returns c = λ e i.
    let n = c.args.n in
    let d = c.args.d in
    let k = c.key_of-key.ensures in
    let h = parts n c.key_of-key.result k.0 k.1 k.2 k.3 in
    let more : 0 < n.left = omega (arith, c.if-n-eq0-2.false) in
    let some = c.if-n-eq0.false in
    let low = c.if-key-ne1.false in
    let x = eqb (c.key_of-key.result / 16384 % 1024) 24 in
    let y = eqb n.data 0 in
    let z = leb n.left d.erase in
    let high = eqb-true (c.key_of-key.result / 16384 % 1024) 24 (and_left x y (and_left (x && y) z e)) in
    record {
      phase = omega (arith, h.high, high, h.few, h.byte);
      mode = omega (arith, h.low, low, h.small);
      unit = eqb-true n.data 0 (and_right x y (and_left (x && y) z e));
      low = omega (arith, h.low, low, h.small);
      unready = omega (arith, h.high, high, h.few, h.byte);
      some = omega (arith, some);
      within = c.if-d-n.false;
      more = more;
      most = leb-true n.left d.erase (and_right (x && y) z e);
      inside = i;
    }
