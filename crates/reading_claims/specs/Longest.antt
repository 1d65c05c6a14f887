-- A table of so many knots, one microvolt apart.
use Rattle.std.specs.Prelude.{List, [], ◌∷◌, ℕ, zero, suc, ◌+◌, ◌/◌, ◌%◌}

-- the next n knots from i microvolts on, all of 0 degrees: six bytes each, high byte first
abbrev pub knots_from : ℕ → ℕ → List ℕ
knots_from zero i = []
knots_from (suc n) i = 0 ∷ 0 ∷ i / 256 ∷ i % 256 ∷ 0 ∷ 0 ∷ knots_from n (i + 1)
