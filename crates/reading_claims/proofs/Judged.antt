-- The judgement lets through exactly the tables, and their voltages rise from any knot to any later one.
use mathlib.Core.Path.{◌≡◌, subst}
use mathlib.Core.Bool.{true}
use mathlib.Core.Logic.{⊎_elim, ◌↔◌}
use mathlib.Core.List.{List}
use Prim.Native.Nat.{ℕ, ◌+◌, ◌≤◌, ◌<◌}
use native.Mathlib.Nat.{eq-or-lt_of_le}
use native.Mathlib.Omega.{arith}
use lib.Dec.{T}
use lib.IntN.{nat_abs}
use lib.Signed.{le_z, lt_z, ◌≤ℤ◌, ◌<ℤ◌, ≤ℤ_refl, clash_ℤ}
use Rattle.reading_table.specs.Table.{knots, volts_of, rises_to, table_number}
use Rattle.reading_table.proofs.Order.{lt_le}
use Rattle.reading_table.proofs.Knots.{Rising, in_range_size}
use Rattle.reading_table.proofs.Judged.{shape_right, right_shape, judged_says, judged_if, judged_rises}
use Rattle.reading_table.proofs.Judged as table
use Rattle.reading_claims.specs.Tables.{Table}

pub judged_table : (p : List ℕ) → table_number p ≡ 0 → Table p
unfolding Rising
judged_table p e =
    let s = judged_says p e in
    let w = shape_right p s.0 in
    record { whole = w.0; two = w.1; range = s.1.0; rises = s.1.1 }

pub rising : (p : List ℕ) → Table p → Rising p
unfolding Rising
rising p t = (t.range, t.rises)

pub table_judged : (p : List ℕ) → Table p → table_number p ≡ 0
table_judged p t = judged_if p (right_shape p t.whole t.two) (rising p t)

pub judged_exactly : (p : List ℕ) → table_number p ≡ 0 ↔ Table p
judged_exactly p = (judged_table p, table_judged p)

-- the knots of a table
module _ (p : List ℕ) (t : Table p) where
  pub size : (i : ℕ) → i < knots p → nat_abs (volts_of p i) ≤ 80000
  size i h = in_range_size (volts_of p i) (t.range i h)

  -- a pair is in range and rises
  pub pair_rises : (i : ℕ) → i + 1 < knots p → rises_to p i (i + 1) ≡ true
  pair_rises i h = judged_rises p (rising p t) i (i + 1) (omega arith) h

  pub later : (i j : ℕ) → i < j → j < knots p → T (lt_z (volts_of p i) (volts_of p j))
  later = table.later p (rising p t)

  pub upto : (i j : ℕ) → i ≤ j → j < knots p → T (le_z (volts_of p i) (volts_of p j))
  upto i j l h = ⊎_elim (λ (d : i ≡ j). subst (λ (m : ℕ). T (le_z (volts_of p i) (volts_of p m))) d (≤ℤ_refl (volts_of p i)).le) (λ (d : i < j). lt_le (volts_of p i) (volts_of p j) (later i j d h)) (eq-or-lt_of_le l)

  -- a knot with no more microvolts than another is not a later one
  pub not_later : (i j : ℕ) → j < knots p → T (le_z (volts_of p j) (volts_of p i)) → i < j → ⊥
  not_later i j h k l =
      let a : volts_of p i <ℤ volts_of p j = record { lt = later i j l h } in
      let b : volts_of p j ≤ℤ volts_of p i = record { le = k } in
      clash_ℤ a b
