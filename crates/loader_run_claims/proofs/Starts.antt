-- A proper idle start against the run's own tests: nothing refuses it, and what nothing refuses is one.
use mathlib.Core.Path.{◌≡◌, ap}
use mathlib.Core.Bool.{false, not}
use mathlib.Core.List.{List}
use mathlib.Core.Logic.{◌↔◌}
use Prim.Native.Nat.{ℕ, ◌≤◌}
use lib.ListN.{length}
use lib.Dec.{eqb}
use borrow.Author.Tests.{eq-eqb}
use Rattle.common.specs.Numbers.{NoRow, end, past}
use Rattle.common.proofs.Choice.{or_left, or_right, or_both}
use Rattle.common.proofs.Numbers.{no_row_given}
use Rattle.device.specs.declared.Device.{Device}
use Rattle.device.specs.Parts.{size_of, length_of}
use Rattle.model_types.specs.declared.Pins.{Pins}
use Rattle.model_types.specs.Cells.{Cells}
use Rattle.model_levels.specs.Levels.{rp_low, bad_pins}
use Rattle.model_rules.proofs.Facts.{parts_proper}
use Rattle.loader_steps.specs.Front.{barred_pins, wrong_lengths}
use Rattle.loader_run.specs.Runs.{run_rows, run_number, run_first}
use Rattle.loader_run.proofs.UnrefusedRun.{good}
use Rattle.loader_run_claims.specs.Mission.{Taken}
use Rattle.loader_run.specs.declared.Job.{Job}

-- pins that do not bar a run are not bad, with RP# not low; and the other way round
pub levels_of : (d : Device) (p : Pins) → barred_pins d.part p ≡ false → (bad_pins d.part p ≡ false) × (rp_low p ≡ false)
unfolding barred_pins
levels_of d p e = (or_left (bad_pins d.part p) (rp_low p) e, or_right (bad_pins d.part p) (rp_low p) e)

levels_both : (d : Device) (p : Pins) → bad_pins d.part p ≡ false → rp_low p ≡ false → barred_pins d.part p ≡ false
unfolding barred_pins
levels_both d p b l = or_both (bad_pins d.part p) (rp_low p) b l

-- a length that is right is not wrong
right : (n m : ℕ) → n ≡ m → not (eqb n m) ≡ false
right n m e = ap not (eq-eqb n m e)

-- .. nor are both
lengths_right : (d : Device) (k w sc : ℕ) → w ≡ length_of d.part k → sc ≡ length_of d.part k → wrong_lengths d.part k w sc ≡ false
unfolding wrong_lengths
lengths_right d k w sc e f = or_both (not (eqb w (length_of d.part k))) (not (eqb sc (length_of d.part k))) (right w _ e) (right sc _ f)

module _ (j : Job) (xs w sc : List ℕ) where
  -- such a start is refused by no number
  pub none_refuses : Taken j xs w sc → run_number j (length xs) (length w) (length sc) ≡ 0
  unfolding run_first
  none_refuses t = no_row_given rows
    where
      rows : NoRow (run_rows j (length xs) (length w) (length sc))
      rows =
          past t.known (past (right (length xs) (size_of j.device.part) t.sized) (past t.proper (past (levels_both j.device j.pins t.levels t.up)
          (past t.block (past (lengths_right j.device j.block (length w) (length sc) t.wanted t.scratch) (past t.idle end))))))

  -- and a run that no number refuses starts so, with busy times up to 65,535 and units of the part's width
  pub taken_if : run_number j (length xs) (length w) (length sc) ≡ 0 → j.device.program ≤ 65535 → j.device.erase ≤ 65535 → Cells j.device.part w → Cells j.device.part xs → Taken j xs w sc
  taken_if n programs erases bytes held =
      let g = good j (length xs) (length w) (length sc) n in
      record {
        known = g.known;
        sized = g.sized;
        proper = parts_proper j.device j.state g.proper;
        idle = g.free;
        block = g.block;
        wanted = g.wanted;
        scratch = g.scratch;
        up = (levels_of j.device j.pins g.levels).1;
        levels = (levels_of j.device j.pins g.levels).0;
        programs = programs;
        erases = erases;
        bytes = bytes;
        held = held;
      }

  -- both at once
  pub taken_exactly : j.device.program ≤ 65535 → j.device.erase ≤ 65535 → Cells j.device.part w → Cells j.device.part xs → Taken j xs w sc ↔ (run_number j (length xs) (length w) (length sc) ≡ 0)
  taken_exactly programs erases bytes held = (none_refuses, λ n. taken_if n programs erases bytes held)
