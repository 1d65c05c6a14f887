-- A list's elements one by one.
use mathlib.Core.Path.{◌≡◌, refl, sym, ap, ◌∙◌}
use mathlib.Core.List.{List, [], ◌∷◌}
use Prim.Native.Nat.{ℕ, zero, suc, ◌+◌, ◌≤◌, ◌<◌}
use native.Mathlib.Omega.{arith}
use native.Mathlib.Numerals.{add-one}
use lib.ListN.{length, get_or, take, drop}
use lib.Seq.{drop-cons, take_all}

-- k of them from place i on
abbrev pub spelled : ℕ → ℕ → List ℕ → List ℕ
spelled zero i xs = []
spelled (suc k) i xs = get_or xs i 0 ∷ spelled k (i + 1) xs

pub spelled_part : (k i : ℕ) (xs : List ℕ) → i + k ≤ length xs → spelled k i xs ≡ take k (drop i xs)
spelled_part zero i xs h = refl
spelled_part (suc k) i xs h =
    let l : i < length xs = omega arith in
    ap (λ (l : List ℕ). get_or xs i 0 ∷ l) (spelled_part k (i + 1) xs (omega arith))
    ∙ ap (λ (n : ℕ). get_or xs i 0 ∷ take k (drop n xs)) (add-one i)
    ∙ sym (ap (λ (l : List ℕ). take (suc k) l) (drop-cons xs i 0 l))

-- the front of a list, and the whole of it
pub spelled_front : (k : ℕ) (xs : List ℕ) → k ≤ length xs → spelled k 0 xs ≡ take k xs
spelled_front k xs h = spelled_part k 0 xs (omega arith)

pub spelled_whole : (k : ℕ) (xs : List ℕ) → length xs ≡ k → spelled k 0 xs ≡ xs
spelled_whole k xs e = spelled_front k xs (omega (arith, e)) ∙ take_all k xs (omega (arith, e))
