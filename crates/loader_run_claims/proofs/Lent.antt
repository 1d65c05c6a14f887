-- Demand 3 of a run on lent bytes of either width.
use mathlib.Core.Path.{◌≡◌, refl, sym, ap, ◌∙◌, subst, ap₂}
use mathlib.Core.Bool.{Bool, true, false}
use mathlib.Core.List.{List}
use Prim.Native.Nat.{ℕ, ◌+◌, ◌-◌, ◌≤◌, ◌<◌}
use native.Mathlib.Omega.{arith}
use lib.ListN.{length, get_or, take, drop}
use lib.Seq.{take-length, take_at, drop_at, length-take-le}
use Rattle.common.specs.Lists.{overlaid, Bytes}
use Rattle.common.proofs.Bytes.{bytes_overlaid, overlaid_length, overlaid_before, overlaid_after}
use Rattle.common.proofs.Numbers.{no_row_given}
use Rattle.device.specs.declared.Part.{Part}
use Rattle.device.specs.Parts.{length_of, start_of}
use Rattle.device.proofs.Claims.{blocks_end_inside}
use Rattle.units.specs.Units.{units, back, bytes_in, torn, lent, pairs}
use Rattle.units.specs.Address.{byte_of}
use Rattle.units.proofs.Widths.{lent_is, lent_whole, back_units, whole, cells, in_law, leave_law}
use Rattle.model_types.specs.Cells.{ones, Cells}
use Rattle.loader_walk.specs.Walks.{rises_in}
use Rattle.loader_run.specs.declared.Ran.{Ran}
use Rattle.loader_run.specs.Runs.{run_number, RunLeft, lent_number, as_bytes, run_first, run_left, lent_run, doing}
use Rattle.loader_run.proofs.Lending.{units_number, some, lent_made}
use Rattle.loader_run_claims.specs.Wear.{held_in, formula_by}
use Rattle.loader_run_claims.specs.Mission.{Start, Demand3}
use Rattle.loader_run_claims.specs.Lent.{LentStart, LentDemand3}
use Rattle.loader_run_claims.proofs.Starts.{taken_if}
use Rattle.loader_run_claims.proofs.Mission.{ends_well_lem, demand_3}
use Rattle.loader_run_claims.specs.Ends.{end_mode, erased_from}
use Rattle.model_states.specs.States.{is_at_rest}
use Rattle.units.proofs.Pairs.{dbl, dbl_is, taken, dropped}
use Rattle.loader.specs.declared.Work.TheVariants.{Load}
use Rattle.loader_run.specs.declared.Job.{Job}

-- the units of bytes are cells
pub units_cells : (part : Part) (xs : List ℕ) → Bytes xs → Cells part (units part.word xs)
unfolding ones
units_cells part xs b = cells part.word xs b

-- what a block holds, in units and in bytes
pub held_units_lem : (w : Bool) (xs : List ℕ) (a n : ℕ) → units w (held_in (byte_of w a) (bytes_in w n) xs) ≡ held_in a n (units w xs)
held_units_lem false xs a n = refl
held_units_lem true xs a n =
    ap₂ (λ (i j : ℕ). pairs (take j (drop i xs))) (sym (dbl_is a)) (sym (dbl_is n)) ∙ taken (drop (dbl a) xs) n ∙ ap (λ (z : List ℕ). take n z) (dropped xs a)

module _ (verify : Bool) (j : Job) (array wanted scratch : List ℕ) (t : LentStart j array wanted scratch) where
  abbrev w : Bool
  w = j.device.part.word

  abbrev X : List ℕ
  X = units w array

  abbrev W : List ℕ
  W = units w wanted

  abbrev a : ℕ
  a = start_of j.device.part j.block

  abbrev from : ℕ
  from = byte_of w a

  none : lent_number j (length array) (length wanted) (length scratch) ≡ 0
  unfolding run_first
  none = no_row_given t.accepted

  n0 : run_number j (length X) (length W) (length (units w scratch)) ≡ 0
  n0 = units_number (doing (Load verify) j) array wanted scratch none

  -- a start in units
  pub start : Start j X W (units w scratch)
  start =
      record {
        base = taken_if j X W (units w scratch) n0 t.programs t.erases (units_cells j.device.part wanted t.wanted_bytes) (units_cells j.device.part array t.array_bytes);
        high = t.high;
        unlock = t.unlock;
      }

  demand : Demand3 verify j X W (units w scratch)
  demand = demand_3 verify j X W (units w scratch) start

  have : (0 < length (lent w array)) × (0 < length (lent w wanted)) × (0 < length (lent w scratch))
  have = some (doing (Load verify) j) array wanted scratch none

  -- the run on lent bytes is that of their units, as bytes again
  made : lent_run (doing (Load verify) j) array wanted scratch ≡ as_bytes w (run_left (doing (Load verify) j) X W (units w scratch))
  made =
      let e = lent_is w array have.0 in
      let f = lent_is w wanted have.1 in
      let g = lent_is w scratch have.2 in
      lent_made (doing (Load verify) j) array wanted scratch none ∙ (λ i. as_bytes w (run_left (doing (Load verify) j) (e i) (f i) (g i)))

  whole_array : torn w (length array) ≡ false
  whole_array = lent_whole w array have.0

  whole_wanted : torn w (length wanted) ≡ false
  whole_wanted = lent_whole w wanted have.1

  lw : length W ≡ length_of j.device.part j.block
  lw = start.base.wanted

  -- as many bytes as units say
  bytes_wanted : length wanted ≡ bytes_in w (length W)
  bytes_wanted = whole w wanted whole_wanted

  inside : a + length W ≤ length X
  inside = omega (arith, lw, start.base.sized, blocks_end_inside j.device.part j.block)

  inside_bytes : from + length wanted ≤ length array
  inside_bytes = in_law w array a (length W) from (length wanted) refl bytes_wanted inside

  -- the wanted bytes laid over the block, in units
  laid_units : units w (overlaid array from wanted) ≡ overlaid X a W
  laid_units =
      ap (λ (z : List ℕ). units w (overlaid array from z)) (sym (take-length wanted))
      ∙ leave_law w array wanted a (length W) from (length wanted) refl bytes_wanted inside (omega arith)
      ∙ ap (λ (z : List ℕ). overlaid X a z) (take-length W)

  laid_back : back w (overlaid X a W) ≡ overlaid array from wanted
  laid_back =
      let n : length (overlaid array from wanted) ≡ length array = overlaid_length array from wanted inside_bytes in
      sym (ap (back w) laid_units) ∙ back_units w (overlaid array from wanted) (ap (λ (m : ℕ). torn w m) n ∙ whole_array) (bytes_overlaid array from wanted t.array_bytes t.wanted_bytes)

  left : (lent_run (doing (Load verify) j) array wanted scratch).bytes ≡ overlaid array from wanted
  left = ap (λ (r : RunLeft). r.bytes) made ∙ ap (back w) demand.array_left ∙ laid_back

  pub lent_demand_3 : LentDemand3 verify j array wanted scratch
  lent_demand_3 =
      record {
        well = ap (λ (r : RunLeft). r.ran.end) made ∙ demand.well;
        sized = bytes_wanted ∙ ap (bytes_in w) lw;
        block =
            ap (λ (z : List ℕ). held_in from (length wanted) z) left
            ∙ ap (λ (z : List ℕ). take (length wanted) z) (drop_at (take from array) _ from (length-take-le from array (let h = inside_bytes in omega arith)))
            ∙ take_at wanted (drop (length wanted) (drop from array)) (length wanted) refl;
        before = λ x h. rw left (overlaid_before array from wanted inside_bytes x h);
        behind = λ x h. rw left (subst (λ (y : ℕ). get_or (overlaid array from wanted) y 0 ≡ get_or array y 0) (let q : from + (length wanted + (x - from - length wanted)) ≡ x = omega arith in q) (overlaid_after array from wanted inside_bytes (x - from - length wanted)));
        array_left = left;
        scratch_left = ap (λ (r : RunLeft). r.scratch) made ∙ ap (back w) demand.scratch_left ∙ back_units w wanted whole_wanted t.wanted_bytes;
        returned = ap (λ (r : RunLeft). r.ran) made ∙ ends_well_lem verify j X W (units w scratch) start ∙ ap (λ (n : ℕ). well_at (held_in a n X)) lw;
        by_formula = ap (λ (r : RunLeft). r.ran.count) made ∙ demand.by_formula;
        of_units = demand;
      }
    where
      well_at : List ℕ → Ran
      well_at ys = record { count = formula_by verify j.device W ys; end = 0; address = 0; state = is_at_rest (erased_from (rises_in W ys) j.block j.state) (end_mode verify W ys) 128 }
