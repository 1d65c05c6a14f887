-- Both knots of every pair are read as they stand, and so is every knot of a table.
use mathlib.Core.Path.{◌≡◌, sym, ap, ◌∙◌}
use mathlib.Core.Logic.{⊎_elim, ◌⊎◌, inl, inr}
use mathlib.Core.List.{List}
use Prim.Native.Nat.{ℕ, ◌+◌, ◌-◌, ◌≤◌, ◌<◌, zero-le}
use native.Mathlib.Nat.{eq-or-lt_of_le}
use native.Mathlib.Omega.{arith}
use lib.Dec.{T}
use lib.IntN.{ℤ}
use lib.Signed.{le_z, lt_z}
use lib.Ieee.{binary64, of_int}
use Rattle.reading_pair.specs.Pairs.{interpolated}
use Rattle.reading_pair.proofs.Knots.{at_first, at_second}
use Rattle.reading_pair.proofs.Inside.{some_gap}
use Rattle.reading_table.specs.Table.{knots, volts_of, tenths_of}
use Rattle.reading_table.specs.Search.{seek_of}
use Rattle.reading_table.proofs.Order.{no_lt}
use Rattle.reading_table.proofs.Seeking.{Around, seek_brackets}
use Rattle.reading_table.proofs.Knots.{tenths_size}
use Rattle.reading.specs.declared.Reading.TheVariants.{Temperature}
use Rattle.reading.specs.Readings.{heat_of, pair_at, reading_of}
use Rattle.reading.proofs.WaysOut.{reads_between}
use Rattle.reading_claims.specs.Tables.{Table, Inside}
use Rattle.reading_claims.proofs.Judged.{size, upto, not_later}

-- inside a table the reading is a temperature: that of the pair found
pub inside_reads : (p : List ℕ) (x : ℤ) → Table p → Inside p x → reading_of p x ≡ Temperature (interpolated (pair_at p (seek_of p x)) (of_int binary64 x))
inside_reads p x t h = sym (reads_between p x (no_lt x (volts_of p 0) h.0) (no_lt (volts_of p (knots p - 1)) x h.1))

module _ (p : List ℕ) (t : Table p) (i : ℕ) (h : i + 1 < knots p) where
  abbrev apart : T (lt_z (volts_of p i) (volts_of p (i + 1)))
  apart = t.rises i h

  pub lower_exact : interpolated (pair_at p i) (of_int binary64 (volts_of p i)) ≡ heat_of p i
  unfolding pair_at
  lower_exact =
      at_first (volts_of p i) (tenths_of p i) (volts_of p (i + 1)) (tenths_of p (i + 1))
      (size p t i (omega (arith, h))) (size p t (i + 1) h) (tenths_size p i) (tenths_size p (i + 1)) (some_gap (volts_of p i) (volts_of p (i + 1)) apart)

  pub upper_exact : interpolated (pair_at p i) (of_int binary64 (volts_of p (i + 1))) ≡ heat_of p (i + 1)
  unfolding pair_at
  upper_exact =
      at_second (volts_of p i) (tenths_of p i) (volts_of p (i + 1)) (tenths_of p (i + 1))
      (size p t i (omega (arith, h))) (size p t (i + 1) h) (tenths_size p i) (tenths_size p (i + 1)) (some_gap (volts_of p i) (volts_of p (i + 1)) apart)

-- every knot is inside the table
pub knot_inside : (p : List ℕ) (t : Table p) (j : ℕ) → j < knots p → Inside p (volts_of p j)
knot_inside p t j h = (upto p t 0 j zero-le h, upto p t j (knots p - 1) (omega (arith, h)) (omega (arith, h)))

-- a pair that reads a knot has it as its lower or as its upper one
which : (p : List ℕ) (t : Table p) (i j : ℕ) → j < knots p → i + 1 < knots p → T (le_z (volts_of p i) (volts_of p j)) → T (le_z (volts_of p j) (volts_of p (i + 1))) → (i ≡ j) ⊎ (i + 1 ≡ j)
which p t i j h k a b = ⊎_elim (λ (e : i ≡ j). inl e) (λ (d : i < j). inr (omega (arith, d, not_later p t (i + 1) j h b))) (eq-or-lt_of_le (le_of (not_later p t j i (omega (arith, k)) a)))
  where
    le_of : (j < i → ⊥) → i ≤ j
    le_of l = omega (arith, l)

pub knot_exact : (p : List ℕ) (t : Table p) (j : ℕ) → j < knots p → reading_of p (volts_of p j) ≡ Temperature (heat_of p j)
knot_exact p t j h =
    let x = volts_of p j in
    let b = knot_inside p t j h in
    let i = seek_of p x in
    let a : Around p x (knots p) i (i + 1) = seek_brackets p x t.two b.0 b.1 in
    let w : i + 1 < knots p = a.within in
    inside_reads p x t b
    ∙ ap Temperature
    (⊎_elim
    (λ (e : i ≡ j). ap (λ (m : ℕ). interpolated (pair_at p i) (of_int binary64 (volts_of p m))) (sym e) ∙ lower_exact p t i w ∙ ap (heat_of p) e)
    (λ (e : i + 1 ≡ j). ap (λ (m : ℕ). interpolated (pair_at p i) (of_int binary64 (volts_of p m))) (sym e) ∙ upper_exact p t i w ∙ ap (heat_of p) e)
    (which p t i j h w a.from a.to))
