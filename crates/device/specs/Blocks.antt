-- Flash blocks as a list of lengths, counted outward from the boot block.
use Rattle.std.specs.Prelude.{List, [], ◌∷◌, ℕ, zero, suc, ◌+◌, ◌-◌, ◌≤◌, ◌<◌, get_or, ltb, if◌then◌else◌}

-- the units of all blocks together
abbrev pub units_of_all : List ℕ → ℕ
units_of_all [] = 0
units_of_all (l ∷ ls) = l + units_of_all ls

-- the units of block k; 0 where there is no such block
abbrev pub length_at : List ℕ → ℕ → ℕ
length_at ls k = get_or ls k 0

-- the units that lie between the boot end and block k
abbrev pub offset_at : List ℕ → ℕ → ℕ
offset_at [] k = 0
offset_at (l ∷ ls) zero = 0
offset_at (l ∷ ls) (suc k) = l + offset_at ls k

-- the block that holds the unit at place p, counted from the boot end
abbrev pub holder : List ℕ → ℕ → ℕ
holder [] p = 0
holder (l ∷ ls) p = if ltb p l then 0 else suc (holder ls (p - l))

-- the unit at place p lies in block k
pub record Lies (ls : List ℕ) (k p : ℕ) : Type 0 where
  pub from : offset_at ls k ≤ p
  pub to : p < offset_at ls k + length_at ls k
