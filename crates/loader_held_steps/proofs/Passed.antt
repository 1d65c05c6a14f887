-- A start or a step with the lists that is not refused: what each of its tests found.
use mathlib.Core.Path.{◌≡◌, refl}
use mathlib.Core.Bool.{false}
use mathlib.Core.List.{List}
use Prim.Native.Nat.{ℕ}
use lib.ListN.{length}
use Rattle.common.specs.Numbers.{NoRow, past, end}
use Rattle.common.proofs.Choice.{or_left, or_right, or_both}
use Rattle.common.proofs.Numbers.{given_no_row, no_row_given, no_head, no_tail}
use Rattle.device.specs.declared.Part.{Part}
use Rattle.model_types.specs.declared.Pins.{Pins}
use Rattle.loader.specs.declared.Loader.{Loader}
use Rattle.loader_steps.specs.Front.{bad_record, start_rows, start_number, step_rows, step_number}
use Rattle.loader_held_lists.specs.Listings.{held_rows, held_number}
use Rattle.loader_held.specs.declared.Hold.{Hold}
use Rattle.loader_held_steps.specs.HeldFront.{bad_hold, bad_pair, place_next, used_rows, used_number, start_held_rows, start_held_number, step_held_rows, step_held_number}

-- a start: the tests of a load's start, and those of the lists
module _ (part : Part) (p : Pins) (k w sc : ℕ) (bs : List ℕ) (room : ℕ) where
  rows : start_held_number part p k w sc bs room ≡ 0 → NoRow (start_held_rows part p k w sc bs room)
  unfolding start_held_number
  rows e = given_no_row (start_held_rows part p k w sc bs room) refl e

  pub start_passed : start_held_number part p k w sc bs room ≡ 0 → (start_number part p k w sc ≡ 0) × (held_number part k bs room ≡ 0)
  unfolding start_number held_number
  start_passed e =
      let t = rows e in
      let t4 = no_tail t in
      let t10 = no_tail t4 in
      let t11 = no_tail t10 in
      (no_row_given (past (no_head t) (past (no_head t4) (past (no_head t10) (past (no_head t11) end)))), no_row_given (no_tail t11))

  -- .. and back
  pub start_passed_back : start_number part p k w sc ≡ 0 → held_number part k bs room ≡ 0 → start_held_number part p k w sc bs room ≡ 0
  unfolding start_number held_number start_held_number
  start_passed_back e o =
      let t : NoRow (start_rows part p k w sc) = given_no_row (start_rows part p k w sc) refl e in
      let u : NoRow (held_rows part k bs room) = given_no_row (held_rows part k bs room) refl o in
      let t4 = no_tail t in
      let t10 = no_tail t4 in
      let t11 = no_tail t10 in
      no_row_given (past (no_head t) (past (no_head t4) (past (no_head t10) (past (no_head t11) u))))

-- a step: the tests of the loader's step, the record of an interruption, and the tests of the lists
pub record Passed (l : Loader) (h : Hold) (w sc : ℕ) (bs : List ℕ) (room : ℕ) : Type 0 where
  pub old : step_number l w sc ≡ 0
  pub fit : bad_hold (length bs) l h ≡ false
  pub used : used_number l.part l.block (place_next h.step h.place (length bs)) bs room ≡ 0

module _ (l : Loader) (h : Hold) (w sc : ℕ) (bs : List ℕ) (room : ℕ) where
  step_rows_lem : step_held_number l h w sc bs room ≡ 0 → NoRow (step_held_rows l h w sc bs room)
  unfolding step_held_number
  step_rows_lem e = given_no_row (step_held_rows l h w sc bs room) refl e

  pub step_passed : step_held_number l h w sc bs room ≡ 0 → Passed l h w sc bs room
  unfolding step_number used_number bad_pair
  step_passed e =
      let t = step_rows_lem e in
      let t3 = no_tail t in
      let t4 = no_tail t3 in
      let t10 = no_tail t4 in
      let t11 = no_tail t10 in
      let good = or_left (bad_record l) (bad_hold (length bs) l h) (no_head t3) in
      record {
        old = no_row_given (past (no_head t) (past good (past (no_head t4) (past (no_head t10) (past (no_head t11) end)))));
        fit = or_right (bad_record l) (bad_hold (length bs) l h) (no_head t3);
        used = no_row_given (no_tail t11);
      }

  -- .. and back
  pub step_passed_back : Passed l h w sc bs room → step_held_number l h w sc bs room ≡ 0
  unfolding step_number used_number bad_pair step_held_number
  step_passed_back q =
      let t : NoRow (step_rows l w sc) = given_no_row (step_rows l w sc) refl q.old in
      let u : NoRow (used_rows l.part l.block (place_next h.step h.place (length bs)) bs room) = given_no_row _ refl q.used in
      let t3 = no_tail t in
      let t4 = no_tail t3 in
      let t10 = no_tail t4 in
      let t11 = no_tail t10 in
      no_row_given
      (past (no_head t)
      (past (or_both (bad_record l) (bad_hold (length bs) l h) (no_head t3) q.fit) (past (no_head t4) (past (no_head t10) (past (no_head t11) u)))))
