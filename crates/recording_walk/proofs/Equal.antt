-- Two lists of bytes compared from the front.
use mathlib.Core.Path.{◌≡◌, refl, sym, ap, ap₂, ◌∙◌}
use mathlib.Core.Bool.{Bool, true, false, ◌&&◌}
use mathlib.Core.List.{List, [], ◌∷◌}
use Prim.Native.Nat.{ℕ, suc, ◌+◌, ◌≤◌, ◌<◌}
use native.Mathlib.Numerals.{add-one}
use native.Mathlib.Omega.{arith}
use lib.Dec.{eqb}
use lib.Bits.{bit_or, bit_xor, and_le_l, and_le_r, or_add_and, xor_add_and, xor_self}
use lib.ListN.{length, get_or, drop, drop_of_length-le}
use lib.Seq.{drop-cons}
use borrow.Author.Tests.{eq-eqb, ne_eqb, eqb-true, eqb-false}
use Rattle.common.proofs.Choice.{and_left, and_right, and_none, unlike}
use Rattle.recording_walk.specs.Lists.{same_bytes}

-- lists of other lengths
pub other_length : (xs ys : List ℕ) → (length xs ≡ length ys → ⊥) → false ≡ same_bytes xs ys
other_length [] [] h = absurd (h refl)
other_length [] (y ∷ ys) h = refl
other_length (x ∷ xs) [] h = refl
other_length (x ∷ xs) (y ∷ ys) h = sym (ap (λ (b : Bool). eqb x y && b) (sym (other_length xs ys (λ e. h (ap suc e)))) ∙ and_none (eqb x y))

pub and_yes : (x : Bool) → (x && true) ≡ x
and_yes true = refl
and_yes false = refl

and_three : (x y z : Bool) → ((x && y) && z) ≡ (x && (y && z))
and_three true y z = refl
and_three false y z = refl

-- bits gathered of two bytes: none is there exactly where none was and the two are the same
gathered : (a x y : ℕ) → eqb (bit_or a (bit_xor x y)) 0 ≡ (eqb a 0 && eqb x y)
gathered a x y = go (eqb a 0) refl (eqb x y) refl
  where
    go : (s : Bool) → eqb a 0 ≡ s → (t : Bool) → eqb x y ≡ t → eqb (bit_or a (bit_xor x y)) 0 ≡ (s && t)
    go true e true f =
        let z : bit_xor x y ≡ 0 = ap (λ (v : ℕ). bit_xor v y) (eqb-true x y f) ∙ xor_self y in
        eq-eqb (bit_or a (bit_xor x y)) 0 (λ i. bit_or (eqb-true a 0 e i) (z i))
    go true e false f =
        ne_eqb (bit_or a (bit_xor x y)) 0 (λ (q : bit_or a (bit_xor x y) ≡ 0).
        let m = or_add_and a (bit_xor x y) in
        let n = and_le_r a (bit_xor x y) in
        let n' = and_le_l a (bit_xor x y) in
        let z = xor_add_and x y in
        let u = and_le_l x y in
        let u' = and_le_r x y in
        eqb-false x y f (omega arith))
    go false e t f =
        ne_eqb (bit_or a (bit_xor x y)) 0 (λ (q : bit_or a (bit_xor x y) ≡ 0).
        let m = or_add_and a (bit_xor x y) in
        let n = and_le_r a (bit_xor x y) in
        eqb-false a 0 e (omega arith))

module _ (xs ys : List ℕ) (i : ℕ) (l : i < length xs) (m : i < length ys) where
  front : same_bytes (drop i xs) (drop i ys) ≡ (eqb (get_or xs i 0) (get_or ys i 0) && same_bytes (drop (suc i) xs) (drop (suc i) ys))
  front = ap₂ same_bytes (drop-cons xs i 0 l) (drop-cons ys i 0 m)

  -- one byte more: the bits gathered of both, and what is left, say what they said
  pub one_more : (a : ℕ) → (eqb (bit_or a (bit_xor (get_or xs i 0) (get_or ys i 0))) 0 && same_bytes (drop (i + 1) xs) (drop (i + 1) ys))
      ≡ (eqb a 0 && same_bytes (drop i xs) (drop i ys))
  one_more a =
      rw (add-one i) (ap (λ (b : Bool). b && same_bytes (drop (suc i) xs) (drop (suc i) ys)) (gathered a (get_or xs i 0) (get_or ys i 0)))
      ∙ and_three (eqb a 0) (eqb (get_or xs i 0) (get_or ys i 0)) (same_bytes (drop (suc i) xs) (drop (suc i) ys))
      ∙ ap (λ (b : Bool). eqb a 0 && b) (sym front)

-- nothing left
pub at_end : (xs ys : List ℕ) (i : ℕ) → length xs ≤ i → length ys ≤ i → same_bytes (drop i xs) (drop i ys) ≡ true
at_end xs ys i l m = ap₂ same_bytes (drop_of_length-le xs {i = i} l) (drop_of_length-le ys {i = i} m)

-- it says what it seems to say
pub same_is : (xs ys : List ℕ) → same_bytes xs ys ≡ true → xs ≡ ys
same_is [] [] e = refl
same_is [] (y ∷ ys) e = absurd (unlike (sym e))
same_is (x ∷ xs) [] e = absurd (unlike (sym e))
same_is (x ∷ xs) (y ∷ ys) e =
    let p : x ≡ y = eqb-true x y (and_left (eqb x y) (same_bytes xs ys) e) in
    let q : xs ≡ ys = same_is xs ys (and_right (eqb x y) (same_bytes xs ys) e) in
    λ i. p i ∷ q i

pub is_same : (xs : List ℕ) → same_bytes xs xs ≡ true
is_same [] = refl
is_same (x ∷ xs) = rw (eq-eqb x x refl) (is_same xs)
