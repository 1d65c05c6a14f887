-- A reading lies between the temperatures of its pair.
use mathlib.Core.Path.{◌≡◌, refl, sym, subst}
use mathlib.Core.Bool.{Bool, true, false}
use mathlib.Core.List.{List}
use Prim.Native.Nat.{ℕ, ◌+◌, ◌-◌, ◌≤◌, ◌<◌, zero-le}
use native.Mathlib.Omega.{arith}
use lib.Dec.{T}
use lib.IntN.{ℤ, pos, negsuc, nat_abs}
use lib.Signed.{le_z, lt_z, ≤ℤ_refl}
use lib.Ieee.{Float, binary64, of_int}
use lib.Ieee.Scale.{finite}
use Rattle.reading_pair.specs.Pairs.{interpolated}
use Rattle.reading_pair.specs.Order.{LiesBetween, not_minus_zero}
use Rattle.reading_pair.proofs.Knots.{at_first}
use Rattle.reading_pair.proofs.Inside.{inside_up, inside_down, some_gap}
use Rattle.reading_table.specs.Table.{knots, volts_of, tenths_of, in_range, rises_to}
use Rattle.reading_table.specs.Search.{seek_of}
use Rattle.reading_table.proofs.Order.{le_trans, not_le}
use Rattle.reading_table.proofs.Knots.{range_size, range_low, range_high, in_range_size, tenths_size}
use Rattle.reading_table.proofs.Judged.{rises_says}
use Rattle.reading_table.proofs.Seeking.{Around, seek_brackets}
use Rattle.reading.specs.Readings.{heat_of, pair_at, reading_of}
use Rattle.reading_claims.specs.Tables.{Table, Inside}
use Rattle.reading_claims.specs.Answers.{degrees}
use Rattle.reading_claims.proofs.Judged.{pair_rises}
use Rattle.reading_claims.proofs.Sides.{Side, under, over, within, side}

-- a pair of any payload that is in range and rises, and a voltage between its knots
module _ (p : List ℕ) (i : ℕ) (g : rises_to p i (i + 1) ≡ true) (x : ℤ) (a : T (le_z (volts_of p i) x)) (b : T (le_z x (volts_of p (i + 1)))) where
  abbrev pair : T (in_range (volts_of p i)) × T (in_range (volts_of p (i + 1))) × T (lt_z (volts_of p i) (volts_of p (i + 1)))
  pair = rises_says p i (i + 1) g

  -- a voltage between two knots is small
  pub small_at : nat_abs x ≤ 80000
  small_at = range_size x (le_trans (negsuc 9999) (volts_of p i) x (range_low (volts_of p i) pair.0) a) (le_trans x (volts_of p (i + 1)) (pos 80000) b (range_high (volts_of p (i + 1)) pair.1))

  pub up_at : T (le_z (tenths_of p i) (tenths_of p (i + 1))) → LiesBetween (tenths_of p i) (interpolated (pair_at p i) (of_int binary64 x)) (tenths_of p (i + 1))
  unfolding pair_at
  up_at =
      inside_up (volts_of p i) (tenths_of p i) (volts_of p (i + 1)) (tenths_of p (i + 1)) x
      (in_range_size (volts_of p i) pair.0) (in_range_size (volts_of p (i + 1)) pair.1) small_at (tenths_size p i) (tenths_size p (i + 1)) pair.2 a b

  pub down_at : T (lt_z (tenths_of p (i + 1)) (tenths_of p i)) → LiesBetween (tenths_of p (i + 1)) (interpolated (pair_at p i) (of_int binary64 x)) (tenths_of p i)
  unfolding pair_at
  down_at =
      inside_down (volts_of p i) (tenths_of p i) (volts_of p (i + 1)) (tenths_of p (i + 1)) x
      (in_range_size (volts_of p i) pair.0) (in_range_size (volts_of p (i + 1)) pair.1) small_at (tenths_size p i) (tenths_size p (i + 1)) pair.2 a b

-- the same of a pair of a table
module _ (p : List ℕ) (t : Table p) (i : ℕ) (h : i + 1 < knots p) (x : ℤ) (a : T (le_z (volts_of p i) x)) (b : T (le_z x (volts_of p (i + 1)))) where
  pub small : nat_abs x ≤ 80000
  small = small_at p i (pair_rises p t i h) x a b

  pub lies_up : T (le_z (tenths_of p i) (tenths_of p (i + 1))) → LiesBetween (tenths_of p i) (interpolated (pair_at p i) (of_int binary64 x)) (tenths_of p (i + 1))
  lies_up = up_at p i (pair_rises p t i h) x a b

  pub lies_down : T (lt_z (tenths_of p (i + 1)) (tenths_of p i)) → LiesBetween (tenths_of p (i + 1)) (interpolated (pair_at p i) (of_int binary64 x)) (tenths_of p i)
  lies_down = down_at p i (pair_rises p t i h) x a b

-- neither a NaN nor an infinity, nor the zero with a minus sign
abbrev pub Plain : Float → Type 0
Plain r = T (finite r) × T (not_minus_zero r)

-- .. whichever way the temperatures go
pub plain_pair : (p : List ℕ) (i : ℕ) → rises_to p i (i + 1) ≡ true → (x : ℤ) → T (le_z (volts_of p i) x) → T (le_z x (volts_of p (i + 1))) → Plain (interpolated (pair_at p i) (of_int binary64 x))
plain_pair p i g x a b = go (le_z (tenths_of p i) (tenths_of p (i + 1))) refl
  where
    go : (u : Bool) → le_z (tenths_of p i) (tenths_of p (i + 1)) ≡ u → Plain (interpolated (pair_at p i) (of_int binary64 x))
    go true e = let l = up_at p i g x a b (subst T (sym e) tt) in (l.2, l.3)
    go false e = let l = down_at p i g x a b (not_le (tenths_of p i) (tenths_of p (i + 1)) e) in (l.2, l.3)

pub plain_inside : (p : List ℕ) (t : Table p) (i : ℕ) → i + 1 < knots p → (x : ℤ) → T (le_z (volts_of p i) x) → T (le_z x (volts_of p (i + 1))) → Plain (interpolated (pair_at p i) (of_int binary64 x))
plain_inside p t i h = plain_pair p i (pair_rises p t i h)

-- a whole number of 16 bits, as the lower of a pair of knots 0 and 1 microvolts that are both so warm
plain_whole : (z : ℤ) → nat_abs z ≤ 32768 → Plain (of_int binary64 z)
plain_whole z h =
    let l = inside_up (pos 0) z (pos 1) z (pos 0) zero-le (omega arith) zero-le h h tt tt tt (≤ℤ_refl z).le in
    subst Plain (at_first (pos 0) z (pos 1) z zero-le (omega arith) h h (some_gap (pos 0) (pos 1) tt)) (l.2, l.3)

-- so every knot's own temperature is plain, of any payload
pub plain_heat : (p : List ℕ) (i : ℕ) → Plain (heat_of p i)
plain_heat p i = plain_whole (tenths_of p i) (tenths_size p i)

-- and every reading of a table
pub plain_reading : (p : List ℕ) (x : ℤ) (t : Table p) → Plain (degrees (reading_of p x))
plain_reading p x t = go (side p x)
  where
    go : Side p x → Plain (degrees (reading_of p x))
    go (under u q) = subst (λ r. Plain (degrees r)) (sym q) (plain_heat p 0)
    go (over u q) = subst (λ r. Plain (degrees r)) (sym q) (plain_heat p (knots p - 1))
    go (within u q) =
        let a : Around p x (knots p) (seek_of p x) (seek_of p x + 1) = seek_brackets p x t.two u.0 u.1 in
        subst (λ r. Plain (degrees r)) (sym q) (plain_inside p t (seek_of p x) a.within x a.from a.to)

-- and inside the table it lies between the temperatures of the pair found
pub lies_inside : (p : List ℕ) (x : ℤ) → Table p → Inside p x → let i = seek_of p x in let r = interpolated (pair_at p i) (of_int binary64 x) in
    (T (le_z (tenths_of p i) (tenths_of p (i + 1))) → LiesBetween (tenths_of p i) r (tenths_of p (i + 1))) × (T (lt_z (tenths_of p (i + 1)) (tenths_of p i)) → LiesBetween (tenths_of p (i + 1)) r (tenths_of p i))
lies_inside p x t u =
    let a : Around p x (knots p) (seek_of p x) (seek_of p x + 1) = seek_brackets p x t.two u.0 u.1 in
    (lies_up p t (seek_of p x) a.within x a.from a.to, lies_down p t (seek_of p x) a.within x a.from a.to)
