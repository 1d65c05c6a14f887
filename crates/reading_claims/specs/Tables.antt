-- A payload that is a table, and the pair of its knots that holds a voltage.
use Rattle.std.specs.Prelude.{◌≡◌, List, ℕ, ◌+◌, ◌-◌, ◌%◌, ◌≤◌, ◌<◌, T, eqb, ℤ, length, Float, if◌then◌else◌}
use Rattle.std.specs.Int.Signed.{le_z, lt_z}
use Rattle.std.specs.Float.{binary64}
use Rattle.std.specs.Float.Ieee.{of_int}
use Rattle.reading_pair.specs.Pairs.{interpolated}
use Rattle.reading_table.specs.Table.{knots, volts_of, tenths_of, in_range, rises_to}
use Rattle.reading.specs.Readings.{pair_at}

-- whole knots, two or more; microvolts in range and strictly rising (R-reading-1)
pub record Table (p : List ℕ) : Type 0 where
  pub whole : length p % 6 ≡ 0
  pub two : 2 ≤ knots p
  pub range : (i : ℕ) → i < knots p → T (in_range (volts_of p i))
  pub rises : (i : ℕ) → i + 1 < knots p → T (lt_z (volts_of p i) (volts_of p (i + 1)))

-- knots i and i + 1 hold x: from the lower up to the upper, which belongs to the next pair but for the last pair
pub record PairHolds (p : List ℕ) (i : ℕ) (x : ℤ) : Type 0 where
  pub pair : i + 1 < knots p
  pub from : T (le_z (volts_of p i) x)
  pub to : T (if eqb (i + 2) (knots p) then le_z x (volts_of p (i + 1)) else lt_z x (volts_of p (i + 1)))

-- r is told by a pair of neighbouring knots of any payload: both in range, the upper above the lower, x between them, r their interpolation
pub record Told (p : List ℕ) (x : ℤ) (r : Float) : Type 0 where
  pub lower : ℕ
  pub pair : lower + 1 < knots p
  pub rises : T (rises_to p lower (lower + 1))
  pub from : T (le_z (volts_of p lower) x)
  pub to : T (le_z x (volts_of p (lower + 1)))
  pub is : r ≡ interpolated (pair_at p lower) (of_int binary64 x)

-- x is neither under the first knot nor over the last
abbrev pub Inside : List ℕ → ℤ → Type 0
Inside p x = T (le_z (volts_of p 0) x) × T (le_z x (volts_of p (knots p - 1)))

-- no temperature of the table is less than that of the knot before
abbrev pub Warming : List ℕ → Type 0
Warming p = (i : ℕ) → i + 1 < knots p → T (le_z (tenths_of p i) (tenths_of p (i + 1)))
