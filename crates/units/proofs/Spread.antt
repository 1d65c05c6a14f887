-- A part of a list, put back after it was filled or copied over.
use mathlib.Core.Path.{◌≡◌, sym, ap, ◌∙◌}
use mathlib.Core.List.{List, ◌++◌}
use Prim.Native.Nat.{ℕ, ◌+◌, ◌-◌, ◌≤◌}
use native.Mathlib.Omega.{arith}
use lib.ListN.{length, take, drop, replicate, length-replicate}
use lib.Seq.{length-take-le}
use borrow.Rule.Slice.PartMut.{put_mid, mid_of, mid_len}
use Rattle.common.specs.Lists.{overlaid, copied}
use Rattle.common.proofs.Lists.{copied_whole}

put : (xs ys : List ℕ) (a k : ℕ) → length ys ≡ k → put_mid a k xs ys ≡ overlaid xs a ys
put xs ys a k h = ap (λ (n : ℕ). take a xs ++ (ys ++ drop n (drop a xs))) (sym h)

module _ (xs : List ℕ) (a n : ℕ) (inside : a + n ≤ length xs) where
  span : length (mid_of a (a + n - a) xs) ≡ n
  span = mid_len a (a + n) xs inside ∙ (let e : a + n - a ≡ n = omega arith in e)

  pub filled : (ys : List ℕ) → ys ≡ replicate (length (mid_of a (a + n - a) xs)) 255 → put_mid a (a + n - a) xs ys ≡ overlaid xs a (replicate n 255)
  filled ys e =
      let f : ys ≡ replicate n 255 = e ∙ ap (λ (m : ℕ). replicate m 255) span in
      let l : length ys ≡ a + n - a = ap (λ (z : List ℕ). length z) e ∙ length-replicate (length (mid_of a (a + n - a) xs)) 255 ∙ mid_len a (a + n) xs inside in
      put xs ys a (a + n - a) l ∙ ap (λ (z : List ℕ). overlaid xs a z) f

  pub laid_over : (rs ys : List ℕ) → n ≤ length rs → ys ≡ copied (mid_of a (a + n - a) xs) (mid_of 0 (n - 0) rs) → put_mid a (a + n - a) xs ys ≡ overlaid xs a (take n rs)
  laid_over rs ys h e =
      let z : n - 0 ≡ n = omega arith in
      let t : length (take n rs) ≡ n = length-take-le n rs h in
      let f : ys ≡ take n rs = e ∙ ap (λ (m : ℕ). copied (mid_of a (a + n - a) xs) (take m rs)) z ∙ copied_whole (mid_of a (a + n - a) xs) (take n rs) (span ∙ sym t) in
      let l : length ys ≡ a + n - a = ap (λ (w : List ℕ). length w) f ∙ t ∙ sym (let q : a + n - a ≡ n = omega arith in q) in
      put xs ys a (a + n - a) l ∙ ap (λ (w : List ℕ). overlaid xs a w) f
