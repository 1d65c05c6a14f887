-- Walks over what is wanted and what the block held, lists of units: by the units left, at a place.
use Rattle.std.specs.Prelude.{Bool, false, not, ◌||◌, List, ℕ, zero, suc, ◌+◌, ◌-◌, length, get_or, eqb, if◌then◌else◌}
use Rattle.std.specs.Int.Bits.{bit_and}

-- some bit is 1 in the wanted unit where the held one has a 0 (R-load-2)
abbrev pub must_rise : ℕ → ℕ → Bool
must_rise held wanted = not (eqb (bit_and held wanted) wanted)

-- some bit must rise in the k units from place i on
abbrev pub rises : ℕ → ℕ → List ℕ → List ℕ → Bool
rises zero i w s = false
rises (suc k) i w s = must_rise (get_or s i 0) (get_or w i 0) || rises k (i + 1) w s

-- the first place from i on, within k units, where the two differ; the place after them where none does (R-load-3)
abbrev pub next_diff : ℕ → ℕ → List ℕ → List ℕ → ℕ
next_diff zero i w s = i
next_diff (suc k) i w s = if eqb (get_or s i 0) (get_or w i 0) then next_diff k (i + 1) w s else i

-- some bit of the block must rise
unfoldable pub rises_in : List ℕ → List ℕ → Bool
rises_in w s = rises (length w) 0 w s

-- the first place from i on where the block differs from what is wanted, or its length
unfoldable pub diff_from : ℕ → List ℕ → List ℕ → ℕ
diff_from i w s = next_diff (length w - i) i w s
