-- Lists as a load sees them: a block inside the array, and a walk that has come to place i.
use mathlib.Core.Path.{◌≡◌, sym, ap, ◌∙◌, subst, refl}
use mathlib.Core.List.{List, [], ◌∷◌, ◌++◌}
use Prim.Native.Nat.{ℕ, ◌+◌, ◌≤◌, ◌<◌, ◌-◌}
use native.Mathlib.Nat.{zero-add, suc-add}
use native.Mathlib.Omega.{arith}
use lib.ListN.{length, get_or, take, drop, set, length-append, length-take, length-drop, length-set, take-append-drop, get_or-eq_default}
use lib.Seq.{take_at, drop_at, length-take-le, set-append_left, set-get_or, get_or-append-add, get_or-drop, get_or-take}
use Rattle.common.specs.Lists.{overlaid, overwritten}
use Rattle.common.proofs.Lists.{overwritten_more}
use mathlib.Core.Bool.{Bool, true, false}
use Rattle.common.proofs.Bytes.{overlaid_before, overlaid_in, overlaid_after}
use lib.Dec.{ltb}
use borrow.Author.Tests.{ltb-true, ltb-false}
use Rattle.device.specs.declared.Part.{Part}
use Rattle.model_types.specs.Cells.{ones, Cells}

set_right : (p q : List ℕ) (i v : ℕ) → set (p ++ q) (length p + i) v ≡ p ++ set q i v
set_right [] q i v = ap (λ (j : ℕ). set q j v) (zero-add i)
set_right (x ∷ p) q i v = ap (λ (j : ℕ). set (x ∷ (p ++ q)) j v) (suc-add (length p) i) ∙ ap (λ (z : List ℕ). x ∷ z) (set_right p q i v)

module _ (xs : List ℕ) (a : ℕ) where
  -- a byte stored in the block
  pub put_over : (ys : List ℕ) (i v : ℕ) → a ≤ length xs → i < length ys → set (overlaid xs a ys) (a + i) v ≡ overlaid xs a (set ys i v)
  put_over ys i v h l =
      let R : List ℕ = drop (length ys) (drop a xs) in
      subst (λ (m : ℕ). set (overlaid xs a ys) (m + i) v ≡ take a xs ++ set (ys ++ R) i v) (length-take-le a xs h) (set_right (take a xs) (ys ++ R) i v)
      ∙ ap (λ (z : List ℕ). take a xs ++ z) (set-append_left ys R i v l)
      ∙ ap (λ (m : ℕ). take a xs ++ (set ys i v ++ drop m (drop a xs))) (sym (length-set ys i v))

  -- the block replaced by another
  pub over_over : (ys zs : List ℕ) → a ≤ length xs → length ys ≡ length zs → overlaid (overlaid xs a ys) a zs ≡ overlaid xs a zs
  over_over ys zs h e =
      let R : List ℕ = drop (length ys) (drop a xs) in
      let f : take a (overlaid xs a ys) ≡ take a xs = take_at (take a xs) (ys ++ R) a (length-take-le a xs h) in
      let g : drop a (overlaid xs a ys) ≡ ys ++ R = drop_at (take a xs) (ys ++ R) a (length-take-le a xs h) in
      let q : drop (length zs) (ys ++ R) ≡ R = drop_at ys R (length zs) e in
      ap (λ (z : List ℕ). z ++ (zs ++ drop (length zs) (drop a (overlaid xs a ys)))) f
      ∙ ap (λ (z : List ℕ). take a xs ++ (zs ++ drop (length zs) z)) g
      ∙ ap (λ (z : List ℕ). take a xs ++ (zs ++ z)) q
      ∙ ap (λ (m : ℕ). take a xs ++ (zs ++ drop m (drop a xs))) e

  -- the block as it is
  pub over_self : (n : ℕ) → a + n ≤ length xs → overlaid xs a (take n (drop a xs)) ≡ xs
  over_self n h =
      let l : length (take n (drop a xs)) ≡ n = length-take-le n (drop a xs) (let q = length-drop a xs in omega arith) in
      ap (λ (m : ℕ). take a xs ++ (take n (drop a xs) ++ drop m (drop a xs))) l
      ∙ ap (λ (z : List ℕ). take a xs ++ z) (take-append-drop n (drop a xs))
      ∙ take-append-drop a xs

-- a walk at place i: the first i bytes are zs's, the others still xs's
module _ (zs xs : List ℕ) (same : length zs ≡ length xs) where
  pub overwritten_length : (i : ℕ) → i ≤ length xs → length (overwritten i zs xs) ≡ length xs
  overwritten_length i h = rw (length-append (take i zs) (drop i xs), length-take i zs, length-drop i xs) (omega arith)

  pub overwritten_here : (i : ℕ) → i < length xs → get_or (overwritten i zs xs) i 0 ≡ get_or xs i 0
  overwritten_here i h =
      subst (λ (m : ℕ). get_or (overwritten i zs xs) m 0 ≡ get_or (drop i xs) 0 0) (let q : length (take i zs) + 0 ≡ i = (let t = length-take-le i zs (omega arith) in omega arith) in q)
      (get_or-append-add (take i zs) (drop i xs) 0 0)
      ∙ get_or-drop i xs 0 0
      ∙ ap (λ (m : ℕ). get_or xs m 0) (let q : i + 0 ≡ i = omega arith in q)

  -- where the two agree the walk has nothing to do
  pub overwritten_agree : (i : ℕ) → i < length xs → get_or xs i 0 ≡ get_or zs i 0 → overwritten i zs xs ≡ overwritten (i + 1) zs xs
  overwritten_agree i h e =
      sym (set-get_or (overwritten i zs xs) i 0) ∙ ap (λ (v : ℕ). set (overwritten i zs xs) i v) (overwritten_here i h ∙ e) ∙ overwritten_more zs xs i (omega arith) h

-- what a block holds of an array of cells are cells
pub cells_held : (part : Part) (a n : ℕ) (xs : List ℕ) → Cells part xs → Cells part (take n (drop a xs))
cells_held part a n xs c i = go (ltb i n) refl
  where
    go : (b : Bool) → ltb i n ≡ b → get_or (take n (drop a xs)) i 0 ≤ ones part
    go true e = rw (get_or-take n (drop a xs) i 0 (ltb-true i n e), get_or-drop a xs i 0) (c (a + i))
    go false e =
        let h : n ≤ i = ltb-false i n e in
        rw (get_or-eq_default (take n (drop a xs)) 0 {n = i} (rw (length-take n (drop a xs)) (omega arith))) (omega arith)

-- cells laid over cells are cells
pub cells_laid : (part : Part) (xs : List ℕ) (a : ℕ) (ys : List ℕ) → a + length ys ≤ length xs → Cells part xs → Cells part ys → Cells part (overlaid xs a ys)
cells_laid part xs a ys h cx cy i = go (ltb i a) refl (ltb i (a + length ys)) refl
  where
    go : (b : Bool) → ltb i a ≡ b → (c : Bool) → ltb i (a + length ys) ≡ c → get_or (overlaid xs a ys) i 0 ≤ ones part
    go true e c f = rw (overlaid_before xs a ys h i (ltb-true i a e)) (cx i)
    go false e true f =
        let m : a ≤ i = ltb-false i a e in
        let n : i < a + length ys = ltb-true i (a + length ys) f in
        subst (λ (j : ℕ). get_or (overlaid xs a ys) j 0 ≤ ones part) (let q : a + (i - a) ≡ i = omega arith in q) (rw (overlaid_in xs a ys h (i - a) (omega arith)) (cy (i - a)))
    go false e false f =
        let n : a + length ys ≤ i = ltb-false i (a + length ys) f in
        subst (λ (j : ℕ). get_or (overlaid xs a ys) j 0 ≤ ones part) (let q : a + (length ys + (i - a - length ys)) ≡ i = omega arith in q)
        (rw (overlaid_after xs a ys h (i - a - length ys)) (cx (a + (length ys + (i - a - length ys)))))
