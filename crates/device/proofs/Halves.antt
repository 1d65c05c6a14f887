-- A list that is halved number by number.
use mathlib.Core.Path.{◌≡◌, sym, ap, ◌∙◌}
use mathlib.Core.List.{List}
use Prim.Native.Nat.{ℕ, ◌+◌, ◌/◌, ◌<◌}
use native.Mathlib.Omega.{arith}
use lib.ListN.{length, get_or, set}
use Rattle.std.specs.Prelude.{map}
use Rattle.std.proofs.lemmas.List.{get_or-map, length-map}
use Rattle.common.specs.Lists.{overwritten}
use Rattle.common.proofs.Lists.{overwritten_more, overwritten_all, overwritten_here}

-- one number more
pub halved_more : (xs : List ℕ) (i : ℕ) → i < length xs → set (overwritten i (map (λ x. x / 2) xs) xs) i (get_or (overwritten i (map (λ x. x / 2) xs) xs) i 0 / 2) ≡ overwritten (i + 1) (map (λ x. x / 2) xs) xs
halved_more xs i h =
    let zs : List ℕ = map (λ x. x / 2) xs in
    let n : i < length zs = omega (arith, length-map xs (λ (x : ℕ). x / 2)) in
    ap (λ (v : ℕ). set (overwritten i zs xs) i (v / 2)) (overwritten_here zs xs i n)
    ∙ ap (λ (v : ℕ). set (overwritten i zs xs) i v) (sym (get_or-map (λ (x : ℕ). x / 2) xs i 0 0 h))
    ∙ overwritten_more zs xs i n h

-- all of them
pub halved_all : (xs : List ℕ) → overwritten (length xs) (map (λ x. x / 2) xs) xs ≡ map (λ x. x / 2) xs
halved_all xs = overwritten_all (map (λ x. x / 2) xs) xs (length-map xs (λ (x : ℕ). x / 2))
