-- `pattern` meets its contract: after i rounds the first i bytes are the pattern's, which goes on from v.
use mathlib.Core.Path.{◌≡◌, refl, sym, ap, ◌∙◌}
use mathlib.Core.List.{List}
use Prim.Native.Nat.{ℕ, ◌+◌, ◌-◌, ◌%◌, ◌<◌}
use native.Mathlib.Omega.{arith}
use native.Mathlib.Nat.{mod-lt}
use lib.ListN.{length, set, length-set}
use Rattle.common.specs.Lists.{overwritten}
use Rattle.common.proofs.Lists.{overwritten_more, overwritten_all}
use Rattle.vectors_text.specs.Patterns.{pattern_of, pattern_from}
use Rattle.vectors_text.proofs.Patterns.{pattern_length, pattern_byte, pattern_next}
use Rattle.vectors_text.proofs.pattern.Goals as goal

pub loop-b-init : goal.loop-b-init
loop-b-init c =
    let a = c.args in
    let n = length a.s.now in
    let e : n ≡ n - 0 = omega arith in
    (mod-lt _ (omega arith), omega arith, refl, refl, ap (λ (k : ℕ). pattern_from (a.top + 1) (a.step % (a.top + 1)) k (a.first % (a.top + 1))) e)

pub overflow_add-v : goal.overflow_add-v
overflow_add-v c = let a = c.args in omega (arith, mod-lt a.step {m = a.top + 1} (omega arith))

pub loop-b-preserved : goal.loop-b-preserved
loop-b-preserved c =
    let l = c.loop-b in
    let a = c.args in
    let s = a.s.now in
    let n = length s in
    let m = a.top + 1 in
    let d = a.step % m in
    let zs = pattern_from m d n (a.first % m) in
    let h : l.b-index < length s = omega arith in (
      mod-lt _ (omega arith),
      omega arith,
      length-set l.s l.b-index (l.v % 256) ∙ l.invariant.2,
      ap (λ (x : List ℕ). set x l.b-index (l.v % 256)) l.invariant.3
          ∙ ap (λ (b : ℕ). set (overwritten l.b-index zs s) l.b-index b) (sym (pattern_byte m d l.v n l.b-index zs h l.invariant.4))
          ∙ overwritten_more zs s l.b-index (rw (pattern_length m d n (a.first % m)) h) h,
      pattern_next m d l.v n l.b-index zs h l.invariant.4,
    )

pub returns : goal.returns
unfolding pattern_of
returns c =
    let l = c.loop-b in
    let a = c.args in
    let s = a.s.now in
    let m = a.top + 1 in
    let zs = pattern_from m (a.step % m) (length s) (a.first % m) in
    let e : l.b-index ≡ length s = omega arith in
    l.invariant.3 ∙ ap (λ (n : ℕ). overwritten n zs s) e ∙ overwritten_all zs s (pattern_length m (a.step % m) (length s) (a.first % m))
