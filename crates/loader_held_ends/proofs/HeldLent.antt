-- A load with interruptions on lent bytes of either width: beside the run without them, and demand 3 of it.
use mathlib.Core.Path.{◌≡◌, sym, ap, ◌∙◌, subst}
use mathlib.Core.Bool.{Bool, true, false, ◌&&◌}
use mathlib.Core.List.{List, ◌++◌}
use Prim.Native.Nat.{ℕ, ◌+◌, ◌*◌, ◌≤◌}
use lib.ListN.{length}
use Rattle.std.specs.Prelude.{if◌then◌else◌}
use Rattle.common.specs.Numbers.{NoRow, end, past}
use Rattle.common.proofs.Numbers.{no_row_given, no_head, no_tail}
use Rattle.device.specs.Parts.{start_of, length_of}
use Rattle.units.specs.Units.{units, back, spare}
use Rattle.units.proofs.Widths.{lent_is, all_bytes}
use Rattle.loader_walk.specs.Walks.{rises_in}
use Rattle.loader_run.specs.declared.Ran.{Ran}
use Rattle.loader_run.specs.Runs.{run_number, lent_rows, lent_number, RunLeft, as_bytes, run_left, lent_run, doing, run_first}
use Rattle.loader_run.proofs.Lending.{units_number, some, lent_made}
use Rattle.loader_run_claims.specs.Wear.{held_in, formula_by}
use Rattle.loader_run_claims.specs.Ends.{Whole}
use Rattle.loader_run_claims.specs.Mission.{Taken}
use Rattle.loader_run_claims.specs.Lent.{LentDemand3}
use Rattle.loader_run_claims.proofs.Starts.{taken_if}
use Rattle.loader_run_claims.proofs.Lent.{units_cells, lent_demand_3}
use Rattle.loader_run_claims.proofs.Total as total
use Rattle.loader_held_lists.specs.Listings.{held_number}
use Rattle.loader_held_run.specs.HeldRuns.{held_run_rows, held_run_number, held_ran, HeldLeft, held_left, lent_held}
use Rattle.loader_held_run.proofs.HeldJudging.{none_refuses}
use Rattle.loader_held_run.proofs.HeldLending.{held_made}
use Rattle.loader_held_claims.specs.HeldMade.{Elsewhere, filled_by, interrupts, interruptions}
use Rattle.loader_held_claims.specs.HeldEnds.{erases, added_by, ends_turned, ran_more, held_ran_as, room_as}
use Rattle.loader_held_ends.specs.HeldMission.{held_end, HeldWhole, HeldStart, HeldDemand3}
use Rattle.loader_held_ends.specs.HeldLent.{LentTaken, LentHeldStart, room_in, LentBeside, LentHeldDemand3}
use Rattle.loader_held_ends.proofs.HeldGrounds.{whole}
use Rattle.loader_held_ends.proofs.HeldMission.{demand_3}
use Rattle.loader_held_ends.proofs.Addresses.{elsewhere, enough, room_bytes}
use Rattle.loader.specs.declared.Work.TheVariants.{Load}
use Rattle.loader_run.specs.declared.Job.{Job}

-- the run's own rows of those that no row holds of
run_rows : (j : Job) (a w sc : ℕ) (bs : List ℕ) (room : ℕ) → NoRow (held_run_rows j a w sc bs room) → NoRow (lent_rows j a w sc)
run_rows j a w sc bs room r =
    let r2 = no_tail r in
    let r3 = no_tail r2 in
    let r4 = no_tail r3 in
    let r5 = no_tail r4 in
    let r6 = no_tail r5 in
    let r7 = no_tail r6 in
    past (no_head r) (past (no_head r2) (past (no_head r3) (past (no_head r4) (past (no_head r5) (past (no_head r6) (past (no_head r7) end))))))

module _ (verify : Bool) (j : Job) (array wanted scratch ps bs room : List ℕ) (t : LentTaken j array wanted scratch bs room) where
  abbrev w : Bool
  w = j.device.part.word

  abbrev X : List ℕ
  X = units w array

  abbrev W : List ℕ
  W = units w wanted

  abbrev S : List ℕ
  S = units w scratch

  abbrev R : List ℕ
  R = units w room

  abbrev Y : List ℕ
  Y = held_in (start_of j.device.part j.block) (length_of j.device.part j.block) X

  none : held_run_number j (length array) (length wanted) (length scratch) bs (length room) ≡ 0
  unfolding run_first
  none = no_row_given t.accepted

  own_none : lent_number j (length array) (length wanted) (length scratch) ≡ 0
  own_none = (none_refuses j (length array) (length wanted) (length scratch) bs (length room) none).0

  pub lists_none : held_number j.device.part j.block bs (length room) ≡ 0
  lists_none = (none_refuses j (length array) (length wanted) (length scratch) bs (length room) none).1

  n0 : run_number j (length X) (length W) (length S) ≡ 0
  n0 = units_number (doing (Load verify) j) array wanted scratch own_none

  pub taken : Taken j X W S
  taken = taken_if j X W S n0 t.programs t.erase_time (units_cells j.device.part wanted t.wanted_bytes) (units_cells j.device.part array t.array_bytes)

  els : Elsewhere j.device j.block bs
  els = elsewhere j.device j.block bs (length room) lists_none

  pub roomy : length bs ≤ length R
  roomy = enough j.device j.block bs room lists_none

  H : HeldWhole verify j X W S bs ps R
  H = whole verify j X W S taken bs ps R els roomy

  old : Whole verify j X W S
  old = total.every_end verify j X W S taken

  -- the run without interruptions on lent bytes is that of their units, as bytes again
  old_made : lent_run (doing (Load verify) j) array wanted scratch ≡ as_bytes w (run_left (doing (Load verify) j) X W S)
  old_made =
      let h = some (doing (Load verify) j) array wanted scratch own_none in
      let e = lent_is w array h.0 in
      let f = lent_is w wanted h.1 in
      let g = lent_is w scratch h.2 in
      lent_made (doing (Load verify) j) array wanted scratch own_none ∙ (λ i. as_bytes w (run_left (doing (Load verify) j) (e i) (f i) (g i)))

  -- and so is the one with them
  made : lent_held (doing (Load verify) j) array wanted scratch ps bs room ≡ held_left w (held_end verify j X W S bs ps R) (spare w room)
  made = held_made (doing (Load verify) j) array wanted scratch ps bs room none

  held_is : held_in (start_of j.device.part j.block) (length W) X ≡ Y
  held_is = ap (λ (n : ℕ). held_in (start_of j.device.part j.block) n X) taken.wanted

  ran_units : held_ran (held_end verify j X W S bs ps R) ≡ ran_more (run_left (doing (Load verify) j) X W S).ran (added_by j.device j.pins j.block W Y bs ps) (ends_turned j.device j.pins j.block W Y ps)
  unfolding held_ran_as
  ran_units = H.ran ∙ (λ i. ran_more (sym old.ran i) (added_by j.device j.pins j.block W (held_is i) bs ps) (ends_turned j.device j.pins j.block W (held_is i) ps))

  room_units : back w (held_end verify j X W S bs ps R).room ++ spare w room ≡ (if erases j.device j.pins j.block W Y && interrupts ps 0 j.device.erase then room_in w array bs room else room)
  unfolding room_as
  room_units =
      ap (λ (z : List ℕ). back w z ++ spare w room) H.filled
      ∙ ap (λ (z : List ℕ). back w (if erases j.device j.pins j.block W z && interrupts ps 0 j.device.erase then filled_by X bs R else R) ++ spare w room) held_is
      ∙ go (erases j.device j.pins j.block W Y && interrupts ps 0 j.device.erase)
    where
      go : (b : Bool) → back w (if b then filled_by X bs R else R) ++ spare w room ≡ (if b then room_in w array bs room else room)
      go true = room_bytes w X bs room t.room_bytes roomy
      go false = all_bytes w room t.room_bytes

  pub lent_beside : LentBeside verify j array wanted scratch ps bs room
  lent_beside =
      record {
        ran = ap (λ (r : HeldLeft). r.ran) made ∙ ran_units ∙ ap (λ (r : RunLeft). ran_more r.ran (added_by j.device j.pins j.block W Y bs ps) (ends_turned j.device j.pins j.block W Y ps)) (sym old_made);
        bytes = ap (λ (r : HeldLeft). r.bytes) made ∙ ap (back w) (H.bytes ∙ sym old.bytes) ∙ ap (λ (r : RunLeft). r.bytes) (sym old_made);
        scratch_left = ap (λ (r : HeldLeft). r.scratch) made ∙ ap (back w) (H.scratch ∙ sym old.scratch) ∙ ap (λ (r : RunLeft). r.scratch) (sym old_made);
        filled = ap (λ (r : HeldLeft). r.room) made ∙ room_units;
      }

-- demand 3 on lent bytes
module _ (verify : Bool) (j : Job) (array wanted scratch ps bs room : List ℕ) (t : LentHeldStart j array wanted scratch bs room) where
  abbrev word : Bool
  word = j.device.part.word

  abbrev wanted_units : List ℕ
  wanted_units = units word wanted

  abbrev Held : List ℕ
  Held = held_in (start_of j.device.part j.block) (length_of j.device.part j.block) (units word array)

  start : HeldStart verify j (units word array) wanted_units (units word scratch) bs ps (units word room)
  start =
      record {
        base = record { base = taken verify j array wanted scratch ps bs room t.base; high = t.high; unlock = t.unlock };
        elsewhere = els verify j array wanted scratch ps bs room t.base;
        roomy = roomy verify j array wanted scratch ps bs room t.base;
      }

  D : HeldDemand3 verify j (units word array) wanted_units (units word scratch) bs ps (units word room)
  D = demand_3 verify j (units word array) wanted_units (units word scratch) bs ps (units word room) start

  B : LentBeside verify j array wanted scratch ps bs room
  B = lent_beside verify j array wanted scratch ps bs room t.base

  without : LentDemand3 verify j array wanted scratch
  without =
      lent_demand_3 verify j array wanted scratch
      (record {
        accepted = run_rows j (length array) (length wanted) (length scratch) bs (length room) t.base.accepted;
        high = t.high;
        unlock = t.unlock;
        array_bytes = t.base.array_bytes;
        wanted_bytes = t.base.wanted_bytes;
        programs = t.base.programs;
        erases = t.base.erase_time;
      })

  made_so : lent_held (doing (Load verify) j) array wanted scratch ps bs room ≡ held_left word (held_end verify j (units word array) wanted_units (units word scratch) bs ps (units word room)) (spare word room)
  made_so = made verify j array wanted scratch ps bs room t.base

  room_so : (lent_held (doing (Load verify) j) array wanted scratch ps bs room).room ≡ (if rises_in wanted_units Held && interrupts ps 0 j.device.erase then room_in word array bs room else room)
  room_so =
      ap (λ (r : HeldLeft). r.room) made_so ∙ ap (λ (z : List ℕ). back word z ++ spare word room) D.room_left ∙ go (rises_in wanted_units Held && interrupts ps 0 j.device.erase)
    where
      go : (b : Bool) → back word (if b then filled_by (units word array) bs (units word room) else units word room) ++ spare word room ≡ (if b then room_in word array bs room else room)
      go true = room_bytes word (units word array) bs room t.base.room_bytes (roomy verify j array wanted scratch ps bs room t.base)
      go false = all_bytes word room t.base.room_bytes

  pub lent_held_demand_3 : LentHeldDemand3 verify j array wanted scratch ps bs room
  lent_held_demand_3 =
      record {
        well = ap (λ (r : Ran). r.end) B.ran ∙ without.well;
        sized = without.sized;
        block = rw B.bytes without.block;
        before = λ x h. rw B.bytes (without.before x h);
        behind = λ x h. rw B.bytes (without.behind x h);
        array_left = B.bytes ∙ without.array_left;
        scratch_left = B.scratch_left ∙ without.scratch_left;
        by_formula = ap (λ (r : HeldLeft). r.ran.count) made_so ∙ D.by_formula;
        at_most = subst (λ (r : HeldLeft). r.ran.count ≤ formula_by verify j.device wanted_units Held + interruptions ps 0 j.device.erase * (j.device.suspend + length bs + 4)) (sym made_so) D.at_most;
        room_left = room_so;
        of_units = D;
      }
