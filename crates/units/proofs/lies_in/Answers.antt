use Prim.Native.Nat.{◌+◌}
use native.Mathlib.Omega.{arith}
use borrow.Author.Tests.{lt-leb}
use mathlib.Core.Path.{sym}
use Rattle.units.proofs.Widths.{lies_by}
use Rattle.units.proofs.lies_in.Goals as goal

pub returns-then-k-a : goal.returns-then-k-a
returns-then-k-a c =
    let a = c.args in
    let h = c.if-k-a.true in
    sym (lt-leb (a.a + a.n) a.k (omega arith))

pub returns : goal.returns
returns c =
    let a = c.args in
    lies_by a.a a.n a.k c.if-k-a.false
