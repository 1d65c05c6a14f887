-- What the judgement lets through: the shape is right, and every later knot is above every earlier one.
use mathlib.Core.Path.{◌≡◌, refl, sym, ap, ap₂, subst}
use mathlib.Core.Bool.{true, false, not, ◌&&◌}
use mathlib.Core.Logic.{⊎_elim}
use mathlib.Core.List.{List}
use Prim.Native.Nat.{ℕ, zero, suc, ◌+◌, ◌%◌, ◌≤◌, ◌<◌}
use native.Mathlib.Nat.{eq-or-lt_of_le}
use native.Mathlib.Omega.{arith}
use lib.Dec.{T, eqb, ltb}
use lib.Signed.{lt_z, ◌≤ℤ◌, ◌<ℤ◌, <ℤ-≤ℤ_trans}
use lib.ListN.{length}
use borrow.Author.Tests.{not-false, eqb-true, eq-eqb, ltb-false, le-ltb}
use Rattle.common.specs.Numbers.{NoRow, end, past}
use Rattle.common.proofs.Choice.{or_left, or_right, or_both}
use Rattle.common.proofs.Numbers.{given_no_row, no_row_given, no_head, no_tail}
use Rattle.reading_table.specs.Table.{knots, volts_of, in_range, rises_to, shape_wrong, rising_of, table_rows, table_number}
use Rattle.reading_table.proofs.Order.{lt_le}
use Rattle.reading_table.proofs.Knots.{Rising, rising_says, rising_if, is, and_holds}

module _ (p : List ℕ) where
  -- 40 does not apply: whole knots, two or more
  pub shape_right : shape_wrong p ≡ false → (length p % 6 ≡ 0) × (2 ≤ knots p)
  unfolding shape_wrong
  shape_right s = (
    eqb-true (length p % 6) 0 (not-false (eqb (length p % 6) 0) (or_left (not (eqb (length p % 6) 0)) (ltb (knots p) 2) s)),
    ltb-false (knots p) 2 (or_right (not (eqb (length p % 6) 0)) (ltb (knots p) 2) s),
  )

  pub right_shape : length p % 6 ≡ 0 → 2 ≤ knots p → shape_wrong p ≡ false
  unfolding shape_wrong
  right_shape w n = or_both (not (eqb (length p % 6) 0)) (ltb (knots p) 2) (ap not (eq-eqb (length p % 6) 0 w)) (le-ltb (knots p) 2 n)

  -- neither row holds
  pub judged_says : table_number p ≡ 0 → (shape_wrong p ≡ false) × Rising p
  unfolding table_number
  judged_says e =
      let n : NoRow (table_rows p) = given_no_row (table_rows p) refl e in
      (no_head n, rising_says p (not-false (rising_of p) (no_head (no_tail n))))

  pub judged_if : shape_wrong p ≡ false → Rising p → table_number p ≡ 0
  unfolding table_number
  judged_if s r = no_row_given {rs = table_rows p} (past s (past (ap not (rising_if p r)) end))

  -- from any knot to any later one
  pub later : Rising p → (i j : ℕ) → i < j → j < knots p → T (lt_z (volts_of p i) (volts_of p j))
  unfolding Rising
  later r i zero l h = absurd (let z : ◌≡◌ {A = ℕ} 0 1 = omega (arith, l) in omega arith)
  later r i (suc j) l h =
      let e : j + 1 ≡ suc j = omega arith in
      let s : T (lt_z (volts_of p j) (volts_of p (suc j))) = subst (λ (m : ℕ). T (lt_z (volts_of p j) (volts_of p m))) e (r.1 j (omega (arith, h))) in
      let q : i ≤ j = omega (arith, l) in
      ⊎_elim (λ (d : i ≡ j). subst (λ (m : ℕ). T (lt_z (volts_of p m) (volts_of p (suc j)))) (sym d) s)
      (λ (d : i < j).
      let a : volts_of p i <ℤ volts_of p j = record { lt = later r i j d (omega (arith, h)) } in
      let b : volts_of p j ≤ℤ volts_of p (suc j) = record { le = lt_le (volts_of p j) (volts_of p (suc j)) s } in
      (<ℤ-≤ℤ_trans a b).lt) (eq-or-lt_of_le q)

  -- two knots that are in range and rise
  pub rises_says : (i j : ℕ) → rises_to p i j ≡ true → T (in_range (volts_of p i)) × T (in_range (volts_of p j)) × T (lt_z (volts_of p i) (volts_of p j))
  unfolding rises_to
  rises_says i j e =
      let a = and_holds (in_range (volts_of p i)) (in_range (volts_of p j) && lt_z (volts_of p i) (volts_of p j)) e in
      let b = and_holds (in_range (volts_of p j)) (lt_z (volts_of p i) (volts_of p j)) (is (in_range (volts_of p j) && lt_z (volts_of p i) (volts_of p j)) a.1) in
      (a.0, b.0, b.1)

  -- so do any two of a table
  pub judged_rises : Rising p → (i j : ℕ) → i < j → j < knots p → rises_to p i j ≡ true
  unfolding Rising rises_to
  judged_rises r i j l h =
      ap₂ ◌&&◌ (is (in_range (volts_of p i)) (r.0 i (omega (arith, l, h))))
      (ap₂ ◌&&◌ (is (in_range (volts_of p j)) (r.0 j h)) (is (lt_z (volts_of p i) (volts_of p j)) (later r i j l h)))
