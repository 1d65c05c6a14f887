-- A search in a list, as the library's test tells it.
use Rattle.std.proofs.Common.{◌≡◌, refl, ℕ, List, [], ◌∷◌, eqb, arith}
use Rattle.std.specs.List.{list_any}
use Rattle.file_block.specs.Block.{within}

-- some number of the list equals x: x stands in it
pub any_within : (x : ℕ) (s : List ℕ) → list_any (λ y. eqb y x) s ≡ within x s
any_within x [] = refl
any_within x (y ∷ ys) = grind (arith, any_within x ys)
