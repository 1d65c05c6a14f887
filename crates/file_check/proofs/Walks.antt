-- Running sums and the weighted sum, and a test of every byte, over any list.
use mathlib.Core.Path.{◌≡◌, refl, sym, ◌∙◌, ap}
use mathlib.Core.List.{List, [], ◌∷◌}
use mathlib.Core.Bool.{Bool, true, false}
use Prim.Native.Nat.{ℕ, suc, ◌+◌, ◌*◌, ◌≤◌, ◌<◌}
use native.Mathlib.Omega.{arith}
use native.Mathlib.Nat.{add-mul, one-mul}
use native.Mathlib.Numerals.{add-one}
use lib.ListN.{length, get_or, drop}
use lib.Seq.{drop-cons}
use lib.Dec.{eqb}
use lib.Bits.{bit_and, and_le_l, and_le_r}
use borrow.Author.Tests.{eq-eqb, ne_eqb, eqb-true, eqb-false}
use Rattle.std.specs.Prelude.{if◌then◌else◌}
use Rattle.std.specs.List.{fold}
use Rattle.common.proofs.Choice.{if_true, if_false}
use Rattle.file_check.specs.Check.{wsum, all_are}
use Rattle.file_check.specs.Inner.{sum_of}

-- what drop leaves at a place within the list
pub from_here : (s : List ℕ) (i : ℕ) → i < length s → drop i s ≡ get_or s i 0 ∷ drop (i + 1) s
from_here s i h = rw (add-one i) (drop-cons s i 0 h)

-- every weight one more: the plain sum more
pub running : (k : ℕ) (xs : List ℕ) → wsum (suc k) xs ≡ wsum k xs + sum_of xs
running k [] = omega arith
running k (x ∷ xs) =
    let e : suc k * x ≡ k * x + x = ap (λ (m : ℕ). m * x) (sym (add-one k)) ∙ add-mul k 1 x ∙ ap (λ (m : ℕ). k * x + m) (one-mul x) in
    let r : wsum (suc (suc k)) xs ≡ wsum (suc k) xs + sum_of xs = running (suc k) xs in
    let q : suc k * x + wsum (suc (suc k)) xs ≡ (k * x + wsum (suc k) xs) + (x + sum_of xs) = omega arith in q

-- one number more in front: the new sum is added to the weighted one
pub one_more : (s : List ℕ) (i : ℕ) → i < length s → wsum 1 (drop i s) ≡ wsum 1 (drop (i + 1) s) + sum_of (drop i s)
one_more s i h =
    ap (wsum 1) (from_here s i h)
    ∙ (let r : wsum 2 (drop (i + 1) s) ≡ wsum 1 (drop (i + 1) s) + sum_of (drop (i + 1) s) = running 1 (drop (i + 1) s) in
    let q : 1 * get_or s i 0 + wsum 2 (drop (i + 1) s) ≡ wsum 1 (drop (i + 1) s) + (get_or s i 0 + sum_of (drop (i + 1) s)) = omega arith in q)
    ∙ ap (λ (x : List ℕ). wsum 1 (drop (i + 1) s) + sum_of x) (sym (from_here s i h))

pub sum_more : (s : List ℕ) (i : ℕ) → i < length s → sum_of (drop i s) ≡ get_or s i 0 + sum_of (drop (i + 1) s)
sum_more s i h = ap sum_of (from_here s i h)

-- the bits that all bytes have, from some bits on, are 255 where these are and each byte is
pub gathered : (s : List ℕ) (a : ℕ) → a ≤ 255 → ((i : ℕ) → get_or s i 0 ≤ 255) → eqb (fold (λ b x. bit_and b x) a s) 255 ≡ (if eqb a 255 then all_are 255 s else false)
gathered [] a m h = itself (eqb a 255)
  where
    itself : (b : Bool) → b ≡ (if b then true else false)
    itself true = refl
    itself false = refl
gathered (x ∷ s) a m h = gathered s (bit_and a x) (let u = and_le_l a x in omega arith) (λ (i : ℕ). h (suc i)) ∙ go (eqb x 255) refl (eqb a 255) refl
  where
    less : (x ≡ 255 → ⊥) → eqb (bit_and a x) 255 ≡ false
    less q = ne_eqb (bit_and a x) 255 (λ (e : bit_and a x ≡ 255). let u = and_le_r a x in let n = h 0 in q (omega arith))

    lower : (a ≡ 255 → ⊥) → eqb (bit_and a x) 255 ≡ false
    lower q = ne_eqb (bit_and a x) 255 (λ (e : bit_and a x ≡ 255). let u = and_le_l a x in q (omega arith))

    go : (t : Bool) → eqb x 255 ≡ t → (b : Bool) → eqb a 255 ≡ b
        → (if eqb (bit_and a x) 255 then all_are 255 s else false) ≡ (if b then (if t then all_are 255 s else false) else false)
    go true e true f =
        let y : bit_and a x ≡ 255 = (λ j. bit_and (eqb-true a 255 f j) (eqb-true x 255 e j)) in
        if_true (eqb (bit_and a x) 255) _ _ (eq-eqb (bit_and a x) 255 y)
    go true e false f = if_false (eqb (bit_and a x) 255) _ _ (lower (eqb-false a 255 f))
    go false e true f = if_false (eqb (bit_and a x) 255) _ _ (less (eqb-false x 255 e))
    go false e false f = if_false (eqb (bit_and a x) 255) _ _ (less (eqb-false x 255 e))
