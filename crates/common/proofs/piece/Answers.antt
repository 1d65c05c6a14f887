-- `common::piece` meets its contract.
use mathlib.Core.Path.{ap, ◌∙◌}
use mathlib.Core.List.{List}
use Prim.Native.Nat.{ℕ}
use native.Mathlib.Omega.{arith}
use lib.ListN.{get_or, set}
use Rattle.common.proofs.Lists.{overwritten_more}
use Rattle.common.proofs.piece.Goals as goal

pub loop-i-preserved : goal.loop-i-preserved
loop-i-preserved c =
    let l = c.loop-i in
    let a = c.args in
    ap (λ (x : List ℕ). set x l.i (get_or a.src.now l.i 0)) l.invariant ∙ overwritten_more a.src.now a.dst.now l.i (omega arith) (omega arith)
