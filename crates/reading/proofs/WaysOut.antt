-- Each way out of a reading, and of a reading from a file.
use mathlib.Core.Path.{◌≡◌, refl}
use mathlib.Core.Bool.{Bool, true, false}
use mathlib.Core.List.{List}
use Prim.Native.Nat.{ℕ, ◌+◌, ◌-◌, ◌≤◌, ◌<◌}
use native.Mathlib.Omega.{arith}
use lib.IntN.{ℤ}
use lib.Signed.{lt_z}
use lib.Ieee.{binary64, of_int}
use Rattle.common.specs.Numbers.{given}
use Rattle.reading_pair.specs.Pairs.{interpolated}
use Rattle.reading_table.specs.Table.{volts_of, knots, rises_to, shape_wrong, table_number}
use Rattle.reading_table.specs.Search.{seek_of}
use Rattle.reading_table.proofs.Order.{not_lt}
use Rattle.reading_table.proofs.Seeking.{seek_brackets}
use Rattle.reading_table.proofs.Knots.{Rising}
use Rattle.reading_table.proofs.Judged.{shape_right, judged_says, judged_rises}
use Rattle.reading.specs.declared.Reading.TheVariants.{Temperature, Below, Above}
use Rattle.reading.specs.declared.ReadingAnswer.TheVariants.{Read, Refused}
use Rattle.reading.specs.Readings.{heat_of, pair_at, reading_of, ends_wrong, pair_wrong, reading_rows, reading_number, reading_answer}

module _ (p : List ℕ) (x : ℤ) where
  abbrev Under : Bool
  Under = lt_z x (volts_of p 0)

  abbrev Over : Bool
  Over = lt_z (volts_of p (knots p - 1)) x

  abbrev Ends : Bool
  Ends = rises_to p 0 (knots p - 1)

  abbrev Rise : Bool
  Rise = rises_to p (seek_of p x) (seek_of p x + 1)

  -- the reading
  pub reads_below : Under ≡ true → Below (heat_of p 0) ≡ reading_of p x
  unfolding reading_of
  reads_below h = simp h

  pub reads_above : Under ≡ false → Over ≡ true → Above (heat_of p (knots p - 1)) ≡ reading_of p x
  unfolding reading_of
  reads_above h k = simp (h, k)

  pub reads_between : Under ≡ false → Over ≡ false → Temperature (interpolated (pair_at p (seek_of p x)) (of_int binary64 x)) ≡ reading_of p x
  unfolding reading_of
  reads_between h k = simp (h, k)

  -- where it is between two knots, the search finds one that has a next
  pub next_knot : Under ≡ false → Over ≡ false → 2 ≤ knots p → seek_of p x + 1 < knots p
  next_knot h k l = (seek_brackets p x l (not_lt x (volts_of p 0) h) (not_lt (volts_of p (knots p - 1)) x k)).within

  -- the answer, where the payload was not judged
  pub refused_40 : shape_wrong p ≡ true → Refused 40 ≡ reading_answer p x
  unfolding reading_answer reading_number
  refused_40 s = simp s

  pub refused_ends : shape_wrong p ≡ false → Ends ≡ false → Refused 41 ≡ reading_answer p x
  unfolding reading_answer reading_number ends_wrong
  refused_ends s e = simp (s, e)

  pub answers_below : shape_wrong p ≡ false → Ends ≡ true → Under ≡ true → Read (Below (heat_of p 0)) ≡ reading_answer p x
  unfolding reading_answer reading_number ends_wrong pair_wrong reading_of
  answers_below s e h = simp (s, e, h)

  pub answers_above : shape_wrong p ≡ false → Ends ≡ true → Under ≡ false → Over ≡ true → Read (Above (heat_of p (knots p - 1))) ≡ reading_answer p x
  unfolding reading_answer reading_number ends_wrong pair_wrong reading_of
  answers_above s e h k = simp (s, e, h, k)

  pub refused_pair : shape_wrong p ≡ false → Ends ≡ true → Under ≡ false → Over ≡ false → Rise ≡ false → Refused 41 ≡ reading_answer p x
  unfolding reading_answer reading_number ends_wrong pair_wrong
  refused_pair s e h k r = simp (s, e, h, k, r)

  pub answers_between : shape_wrong p ≡ false → Ends ≡ true → Under ≡ false → Over ≡ false → Rise ≡ true
      → Read (Temperature (interpolated (pair_at p (seek_of p x)) (of_int binary64 x))) ≡ reading_answer p x
  unfolding reading_answer reading_number ends_wrong pair_wrong reading_of
  answers_between s e h k r = simp (s, e, h, k, r)

  -- a payload that the judgement lets through is not refused
  pub judged_number : table_number p ≡ 0 → reading_number p x ≡ 0
  unfolding reading_number ends_wrong pair_wrong
  judged_number z = go Under refl Over refl
    where
      says : (shape_wrong p ≡ false) × Rising p
      says = judged_says p z

      two : 2 ≤ knots p
      two = (shape_right p says.0).1

      ends : Ends ≡ true
      ends = judged_rises p says.1 0 (knots p - 1) (omega (arith, two)) (omega (arith, two))

      go : (a : Bool) → Under ≡ a → (b : Bool) → Over ≡ b → given (reading_rows p x) ≡ 0
      go true h b k = simp (says.0, ends, h)
      go false h true k = simp (says.0, ends, h, k)
      go false h false k = simp (says.0, ends, h, k, judged_rises p says.1 (seek_of p x) (seek_of p x + 1) (omega arith) (next_knot h k two))
