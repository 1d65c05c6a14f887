-- `common::copy` meets its contract: each piece, and each byte behind them, is laid next.
use mathlib.Core.Path.{◌≡◌, ap, ◌∙◌}
use mathlib.Core.List.{List}
use Prim.Native.Nat.{ℕ, ◌+◌, ◌-◌, ◌*◌, ◌%◌, ◌≤◌}
use native.Mathlib.Omega.{arith}
use lib.ListN.{length, get_or, set}
use borrow.Rule.Slice.PartMut.{put_mid, mid_of}
use Rattle.common.specs.Lists.{overwritten}
use Rattle.common.proofs.Lists.{copied_least, overwritten_more}
use Rattle.common.proofs.Pieces.{overwritten_piece}
use Rattle.common.proofs.copy.Goals as goal

pub loop-k-preserved : goal.loop-k-preserved
loop-k-preserved c =
    let l = c.loop-k in
    let s = c.args.src.now in
    let d = c.args.dst.now in
    let a = 512 * l.k in
    let e : a + 512 ≤ length s = omega arith in
    let n : a + 512 ≡ 512 * (l.k + 1) = omega arith in
    ap (put_mid a (a + 512 - a) l.dst) c.piece.ensures
    ∙ ap (λ (x : List ℕ). put_mid a (a + 512 - a) x (mid_of a (a + 512 - a) s)) l.invariant
    ∙ overwritten_piece s d a (a + 512) (omega arith) e
    ∙ ap (λ (m : ℕ). overwritten m s d) n

pub loop-i-init : goal.loop-i-init
loop-i-init c =
    let l = c.loop-k in
    let w : 512 * l.k ≡ c.least-n.result - c.least-n.result % 512 = omega arith in
    l.invariant ∙ ap (λ (m : ℕ). overwritten m c.args.src.now c.args.dst.now) w

pub loop-i-preserved : goal.loop-i-preserved
loop-i-preserved c =
    let l = c.loop-i in
    let a = c.args in
    ap (λ (x : List ℕ). set x l.i (get_or a.src.now l.i 0)) l.invariant ∙ overwritten_more a.src.now a.dst.now l.i (omega arith) (omega arith)

pub returns : goal.returns
returns c =
    let l = c.loop-i in
    let s = c.args.src.now in
    let d = c.args.dst.now in
    let w : l.i ≡ c.least-n.result = omega arith in
    l.invariant ∙ ap (λ (m : ℕ). overwritten m s d) (w ∙ c.least-n.ensures) ∙ copied_least d s
