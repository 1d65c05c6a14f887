-- Lists of bytes, and the laws of lists that the claims stand on.
use mathlib.Core.Path.{◌≡◌, refl, sym, ◌∙◌, ap, subst}
use mathlib.Core.List.{List, [], ◌∷◌, ◌++◌}
use mathlib.Core.Bool.{Bool, true, false}
use Prim.Native.Nat.{ℕ, zero, suc, ◌+◌, ◌≤◌, ◌<◌}
use native.Mathlib.Omega.{arith}
use lib.ListN.{length, get_or, take, drop, replicate}
use lib.Seq.{get_or-drop, get_or-take, drop-cons}
use lib.Dec.{eqb}
use borrow.Author.Tests.{eq-eqb, eqb-true}
use Rattle.common.specs.Lists.{Bytes}
use Rattle.common.proofs.Choice.{if_true, if_false}
use Rattle.file_check.specs.Check.{all_are}

-- every element of what is left behind a place is a byte
pub bytes_drop : (n : ℕ) (f : List ℕ) → Bytes f → Bytes (drop n f)
bytes_drop n f h k = subst (λ (x : ℕ). x < 256) (sym (get_or-drop n f k 0)) (h (n + k))

pub byte_take : (n : ℕ) (f : List ℕ) (k : ℕ) → k < n → Bytes f → get_or (take n f) k 0 < 256
byte_take n f k e h = subst (λ (x : ℕ). x < 256) (sym (get_or-take n f k 0 e)) (h k)

-- bytes put together are bytes
pub bytes_none : Bytes []
bytes_none k = omega arith

pub bytes_cons : (x : ℕ) (xs : List ℕ) → x < 256 → Bytes xs → Bytes (x ∷ xs)
bytes_cons x xs e h zero = e
bytes_cons x xs e h (suc k) = h k

pub bytes_append : (xs ys : List ℕ) → Bytes xs → Bytes ys → Bytes (xs ++ ys)
bytes_append [] ys h g = g
bytes_append (x ∷ xs) ys h g = bytes_cons x (xs ++ ys) (h 0) (bytes_append xs ys (λ (k : ℕ). h (suc k)) g)

pub bytes_take : (n : ℕ) (xs : List ℕ) → Bytes xs → Bytes (take n xs)
bytes_take zero xs h = bytes_none
bytes_take (suc n) [] h = bytes_none
bytes_take (suc n) (x ∷ xs) h = bytes_cons x (take n xs) (h 0) (bytes_take n xs (λ (k : ℕ). h (suc k)))

pub bytes_replicate : (n b : ℕ) → b < 256 → Bytes (replicate n b)
bytes_replicate zero b h = bytes_none
bytes_replicate (suc n) b h = bytes_cons b (replicate n b) h (bytes_replicate n b h)

-- the same of a list that is written out, element by element
pub data Each : List ℕ → Type 0 where
  none : Each []
  more : {x : ℕ} {xs : List ℕ} → x < 256 → Each xs → Each (x ∷ xs)

pub each_bytes : {xs : List ℕ} → Each xs → Bytes xs
each_bytes none = bytes_none
each_bytes (more {x = x} {xs = xs} h e) = bytes_cons x xs h (each_bytes e)

-- a list all of whose elements are b is b repeated, and the other way round
pub all_repeated : (b : ℕ) (xs : List ℕ) → all_are b xs ≡ true → xs ≡ replicate (length xs) b
all_repeated b [] e = refl
all_repeated b (x ∷ xs) e = go (eqb x b) refl (all_repeated b xs)
  where
    go : (t : Bool) → eqb x b ≡ t → (all_are b xs ≡ true → xs ≡ replicate (length xs) b) → x ∷ xs ≡ b ∷ replicate (length xs) b
    go true q r =
        let h : x ≡ b = eqb-true x b q in
        let t : xs ≡ replicate (length xs) b = r (sym (if_true (eqb x b) (all_are b xs) false q) ∙ e) in
        ap (λ (z : ℕ). z ∷ xs) h ∙ ap (λ (z : List ℕ). b ∷ z) t
    go false q r = absurd (let w : false ≡ true = sym (if_false (eqb x b) (all_are b xs) false q) ∙ e in let z : ◌≡◌ {A = ℕ} 0 1 = cc in omega arith)

pub repeated_all : (b n : ℕ) → all_are b (replicate n b) ≡ true
repeated_all b zero = refl
repeated_all b (suc n) = if_true (eqb b b) (all_are b (replicate n b)) false (eq-eqb b b refl) ∙ repeated_all b n

-- the first five elements, written out
pub first_five : (xs : List ℕ) → 5 ≤ length xs → xs ≡ get_or xs 0 0 ∷ get_or xs 1 0 ∷ get_or xs 2 0 ∷ get_or xs 3 0 ∷ get_or xs 4 0 ∷ drop 5 xs
first_five xs h =
    drop-cons xs 0 0 (omega arith)
    ∙ ap (λ (z : List ℕ). get_or xs 0 0 ∷ z) (drop-cons xs 1 0 (omega arith))
    ∙ ap (λ (z : List ℕ). get_or xs 0 0 ∷ get_or xs 1 0 ∷ z) (drop-cons xs 2 0 (omega arith))
    ∙ ap (λ (z : List ℕ). get_or xs 0 0 ∷ get_or xs 1 0 ∷ get_or xs 2 0 ∷ z) (drop-cons xs 3 0 (omega arith))
    ∙ ap (λ (z : List ℕ). get_or xs 0 0 ∷ get_or xs 1 0 ∷ get_or xs 2 0 ∷ get_or xs 3 0 ∷ z) (drop-cons xs 4 0 (omega arith))
