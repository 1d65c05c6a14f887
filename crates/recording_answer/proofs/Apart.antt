-- Where two lists first differ, from a place on.
use mathlib.Core.Path.{◌≡◌, refl}
use mathlib.Core.Bool.{Bool, true, false, not, cond}
use mathlib.Core.List.{List, [], ◌∷◌}
use Prim.Native.Nat.{ℕ, suc, ◌≤◌, ◌<◌, min}
use native.Mathlib.Omega.{arith}
use lib.Dec.{eqb, ltb}
use lib.ListN.{length, get_or}
use borrow.Author.Tests.{eqb-false, ltb-false}
use Rattle.std.specs.List.{position_or_len, zip}
use Rattle.std.specs.Option.{unwrap_or}
use Rattle.std.specs.Prelude.{if◌then◌else◌, Option, Some, None}
use Rattle.std.proofs.lemmas.Slice.Zip.{length-zip}
use Rattle.recording_answer.specs.Lines.{first_apart}

-- the first pair of other bytes is where they differ
first_pair : (xs ys : List ℕ) → position_or_len (λ p. not (eqb p.0 p.1)) (zip xs ys) ≡ first_apart xs ys
first_pair [] ys = refl
first_pair (x ∷ xs) [] = refl
first_pair (x ∷ xs) (y ∷ ys) = go (eqb x y) refl (first_pair xs ys)
  where
    go : (b : Bool) → eqb x y ≡ b → position_or_len (λ p. not (eqb p.0 p.1)) (zip xs ys) ≡ first_apart xs ys
        → position_or_len (λ p. not (eqb p.0 p.1)) (zip (x ∷ xs) (y ∷ ys)) ≡ first_apart (x ∷ xs) (y ∷ ys)
    go true e h = rw e (omega (arith, h))
    go false e h = rw e refl

apart_most : (xs ys : List ℕ) → first_apart xs ys ≤ min (length xs) (length ys)
apart_most [] ys = omega arith
apart_most (x ∷ xs) [] = omega arith
apart_most (x ∷ xs) (y ∷ ys) = go (eqb x y) refl (apart_most xs ys)
  where
    go : (b : Bool) → eqb x y ≡ b → first_apart xs ys ≤ min (length xs) (length ys) → first_apart (x ∷ xs) (y ∷ ys) ≤ min (length (x ∷ xs)) (length (y ∷ ys))
    go true e h = rw e (omega (arith, h))
    go false e h = rw e (omega arith)

-- of the pairs the first of other bytes, or their number where none is: where the two first differ
pub apart_is : (xs ys : List ℕ) (r : Option ℕ) (n : ℕ) → n ≡ min (length xs) (length ys)
    → r ≡ cond (ltb (position_or_len (λ p. not (eqb p.0 p.1)) (zip xs ys)) (length (zip xs ys))) (Some (position_or_len (λ p. not (eqb p.0 p.1)) (zip xs ys))) None
    → unwrap_or r n ≡ first_apart xs ys
apart_is xs ys r n m e = go (ltb (first_apart xs ys) (min (length xs) (length ys))) refl (rw (first_pair xs ys, length-zip xs ys) at e)
  where
    go : (b : Bool) → ltb (first_apart xs ys) (min (length xs) (length ys)) ≡ b
        → r ≡ cond (ltb (first_apart xs ys) (min (length xs) (length ys))) (Some (first_apart xs ys)) None → unwrap_or r n ≡ first_apart xs ys
    go true h q = rw (q, h) refl
    go false h q = let k : min (length xs) (length ys) ≤ first_apart xs ys = ltb-false _ _ h in rw (q, h) (omega (arith, apart_most xs ys, m))

-- where they differ before the end, they do
pub place_differs : (xs ys : List ℕ) → length xs ≡ length ys → first_apart xs ys < length ys → get_or xs (first_apart xs ys) 0 ≡ get_or ys (first_apart xs ys) 0 → ⊥
place_differs [] [] l h e = omega (arith, h)
place_differs [] (y ∷ ys) l h e = omega (arith, l)
place_differs (x ∷ xs) [] l h e = omega (arith, h)
place_differs (x ∷ xs) (y ∷ ys) l h e = go (eqb x y) refl (place_differs xs ys (let z : length xs ≡ length ys = omega (arith, l) in z)) h e
  where
    go : (b : Bool) → eqb x y ≡ b → (first_apart xs ys < length ys → get_or xs (first_apart xs ys) 0 ≡ get_or ys (first_apart xs ys) 0 → ⊥)
        → (if b then suc (first_apart xs ys) else 0) < suc (length ys) → get_or (x ∷ xs) (if b then suc (first_apart xs ys) else 0) 0 ≡ get_or (y ∷ ys) (if b then suc (first_apart xs ys) else 0) 0 → ⊥
    go true f more k g = more (omega (arith, k)) g
    go false f more k g = eqb-false x y f g
