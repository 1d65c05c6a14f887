-- The pair of knots for a voltage, found by halving.
use Rattle.std.specs.Prelude.{List, ℕ, zero, suc, ◌+◌, ◌-◌, ◌/◌, ◌^◌, ltb, ℤ, if◌then◌else◌}
use Rattle.std.specs.Int.Signed.{le_z}
use Rattle.reading_table.specs.Table.{volts_of, knots}

-- between knots lo and hi, in at most k halvings: the half whose lower end is not above x
unfoldable pub halving : ℕ → List ℕ → ℤ → ℕ → ℕ → ℕ
halving zero p x lo hi = lo
halving (suc k) p x lo hi =
    let m = lo + (hi - lo) / 2 in
    let low = le_z (volts_of p m) x in
    if ltb (lo + 1) hi then halving k p x (if low then m else lo) (if low then hi else m) else lo

-- the lower knot of the pair for x; as many halvings as there are knots are more than enough
unfoldable pub seek_of : List ℕ → ℤ → ℕ
unfolding halving
seek_of p x = halving (knots p) p x 0 (knots p - 1)

-- how many of the first k powers of two, from 1 on, are less than d
unfoldable pub powers_under : ℕ → ℕ → ℕ
powers_under zero d = 0
powers_under (suc k) d = (if ltb (2 ^ k) d then 1 else 0) + powers_under k d

-- the halvings that the code has still to make, at most, with its ends at lo and hi: the measure of its loop, which each round lowers
abbrev pub rounds_left : ℕ → ℕ → ℕ
rounds_left lo hi = powers_under 64 (hi - lo)
