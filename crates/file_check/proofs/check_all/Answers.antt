-- `check_all` meets its contract: running sums of the bytes from a place on are what the weighted sum makes of them.
use mathlib.Core.Path.{◌≡◌, ◌∙◌, ap}
use Prim.Native.Nat.{ℕ, ◌<◌, ◌+◌, ◌-◌, ◌%◌}
use native.Mathlib.Omega.{arith}
use lib.ListN.{length, get_or, drop}
use Rattle.file_check.specs.Check.{wsum, check_of}
use Rattle.file_check.specs.Inner.{sum_of}
use Rattle.file_check.proofs.Walks.{one_more, sum_more}
use Rattle.file_check.proofs.check_all.Goals as goal

pub loop-place-preserved : goal.loop-place-preserved
loop-place-preserved c =
    let l = c.loop-place in
    let xs = c.args.bytes.now in
    let i = l.place - 1 in
    let x : c.byte_at-sum.result ≡ get_or xs i 0 = c.byte_at-sum.ensures.0 in
    let b : c.byte_at-sum.result < 256 = c.byte_at-sum.ensures.1 in
    let o : i + 1 ≡ l.place = omega arith in
    let h : i < length xs = omega arith in
    let S : ℕ = sum_of (drop l.place xs) in
    let a : sum_of (drop i xs) ≡ get_or xs i 0 + S = sum_more xs i h ∙ ap (λ (k : ℕ). get_or xs i 0 + sum_of (drop k xs)) o in
    let w : wsum 1 (drop i xs) ≡ wsum 1 (drop l.place xs) + sum_of (drop i xs) = one_more xs i h ∙ ap (λ (k : ℕ). wsum 1 (drop k xs) + sum_of (drop i xs)) o in
    let u = l.invariant.1 in
    let v = l.invariant.2 in
    (omega arith, omega arith, omega arith, omega arith, omega arith)

pub returns : goal.returns
unfolding check_of
returns c =
    let l = c.loop-place in
    let xs = c.args.bytes.now in
    let z : l.place ≡ 0 = omega arith in
    c.left_over.ensures ∙ ap (λ (k : ℕ). k % 65521) l.invariant.2 ∙ ap (λ (k : ℕ). (1 + wsum 1 (drop k xs)) % 65521) z
