-- A run is its load and the verify after it.
use mathlib.Core.Path.{◌≡◌, refl, sym, ap, ◌∙◌}
use mathlib.Core.Bool.{Bool, true, false}
use mathlib.Core.List.{List, [], ◌∷◌, ◌++◌, append-nil}
use Prim.Native.Nat.{ℕ, zero, suc, ◌+◌, ◌≤◌}
use native.Mathlib.Omega.{arith}
use lib.ListN.{length, get_or, take, drop}
use lib.Seq.{take_at, drop_at, length-take-le}
use lib.Dec.{eqb}
use borrow.Author.Tests.{eqb-true, eqb-false}
use Rattle.std.specs.Prelude.{if◌then◌else◌}
use Rattle.common.proofs.Choice.{if_true, if_false}
use Rattle.common.specs.Lists.{overlaid, overwritten}
use Rattle.common.proofs.Lists.{overwritten_all}
use Rattle.common.proofs.Bytes.{overlaid_length}
use Rattle.common.proofs.Numbers.{given_no_row}
use Rattle.common.specs.Numbers.{NoRow}
use Rattle.device.specs.declared.Device.{Device}
use Rattle.device.specs.Parts.{start_of}
use Rattle.model_types.specs.declared.Pins.{Pins}
use Rattle.model_types.specs.declared.Kind.TheVariants.{Read, Write}
use Rattle.model_types.specs.declared.Cycle.{Cycle}
use Rattle.model_types.specs.declared.Mode.TheVariants.{Array}
use Rattle.model_types.specs.declared.State.{State}
use Rattle.model_types.specs.Cells.{Cells}
use Rattle.model_states.specs.States.{is_at_rest}
use Rattle.model_rules.proofs.Facts.{parts_proper}
use Rattle.model.proofs.Keeping.{rest_proper}
use Rattle.loader_walk.specs.Walks.{rises_in}
use Rattle.loader_run.specs.declared.Ran.{Ran}
use Rattle.loader_run.specs.Runs.{run_rows, run_number, RunLeft, run_refused, run_left, run_first, doing, job_of}
use Rattle.loader_run.proofs.Leaving.{left_refused}
use Rattle.loader_run_claims.specs.Wear.{held_in, base_of, formula, load_formula}
use Rattle.loader_run_claims.specs.Made.{bus_cycle, reads_then, polls_then, opening_then, erase_then, program_then, programs_then, programming_then, load_then, closing_of, cycles_at, cycles_of_load}
use Rattle.loader_run_claims.specs.Ends.{loaded_mode, end_number, well_ran, fault_ran, ran_as, bytes_as, scratch_as, cycles_as, erased_from}
use Rattle.loader_run_claims.specs.Mission.{Taken}
use Rattle.loader_run_claims.proofs.Starts.{none_refuses, taken_if}
use Rattle.loader_run_claims.proofs.LoadLists.{cells_laid}
use Rattle.loader_run_claims.proofs.Grounds as grounds
use Rattle.loader_run_claims.proofs.Total.{every_end}
use Rattle.loader_run_claims.proofs.Mission.{formula_load_verify}
use Rattle.loader_verify_claims.specs.Verified.{units_read, verify_end, verify_address, verify_ran, Verified}
use Rattle.loader_verify_claims.specs.LoadThenVerify.{verify_from, counted_on, verify_after, then_verify, load_verify_left, cycles_after, load_verify_cycles}
use Rattle.loader_verify_claims.proofs.Verifying.{as_wanted_lem, verified}
use Rattle.loader.specs.declared.Work.TheVariants.{Load, Verify}
use Rattle.loader_run.specs.declared.Job.{Job}

-- what was laid over an array is held there
held_over : (xs w : List ℕ) (a : ℕ) → a + length w ≤ length xs → held_in a (length w) (overlaid xs a w) ≡ w
held_over xs w a h =
    ap (λ (z : List ℕ). take (length w) z) (drop_at (take a xs) _ a (length-take-le a xs (omega arith))) ∙ take_at w (drop (length w) (drop a xs)) (length w) refl

-- what is left is its three parts
parts : (x y : RunLeft) → x.ran ≡ y.ran → x.bytes ≡ y.bytes → x.scratch ≡ y.scratch → x ≡ y
parts x y a b c = λ i. record { ran = a i; bytes = b i; scratch = c i }

-- cycles that come last, put behind
reads_then_lem : (p : Pins) (n a i : ℕ) (xs cs : List Cycle) → reads_then p n a i (xs ++ cs) ≡ reads_then p n a i xs ++ cs
reads_then_lem p zero a i xs cs = refl
reads_then_lem p (suc n) a i xs cs = ap (λ (z : List Cycle). bus_cycle p Read (a + i) 0 ∷ z) (reads_then_lem p n a (i + 1) xs cs)

polls_then_lem : (p : Pins) (n x : ℕ) (xs cs : List Cycle) → polls_then p n x (xs ++ cs) ≡ polls_then p n x xs ++ cs
polls_then_lem p zero x xs cs = refl
polls_then_lem p (suc n) x xs cs = ap (λ (z : List Cycle). bus_cycle p Read x 0 ∷ z) (polls_then_lem p n x xs cs)

programs_then_lem : (d : Device) (p : Pins) (k a i : ℕ) (w s : List ℕ) (xs cs : List Cycle) → programs_then d p k a i w s (xs ++ cs) ≡ programs_then d p k a i w s xs ++ cs
programs_then_lem d p zero a i w s xs cs = refl
programs_then_lem d p (suc k) a i w s xs cs = go (eqb (get_or s i 0) (get_or w i 0)) (programs_then_lem d p k a (i + 1) w s xs cs)
  where
    go : (t : Bool) → programs_then d p k a (i + 1) w s (xs ++ cs) ≡ programs_then d p k a (i + 1) w s xs ++ cs
        → (if t then programs_then d p k a (i + 1) w s (xs ++ cs) else program_then d p (a + i) (get_or w i 0) (programs_then d p k a (i + 1) w s (xs ++ cs)))
        ≡ (if t then programs_then d p k a (i + 1) w s xs else program_then d p (a + i) (get_or w i 0) (programs_then d p k a (i + 1) w s xs)) ++ cs
    go true e = e
    go false e =
        ap (λ (z : List Cycle). program_then d p (a + i) (get_or w i 0) z) e
        ∙ ap (λ (z : List Cycle). bus_cycle p Write (a + i) 0x40 ∷ bus_cycle p Write (a + i) (get_or w i 0) ∷ z) (polls_then_lem p d.program (a + i) (programs_then d p k a (i + 1) w s xs) cs)

-- the cycles of a load with others after it are the load's own, then the others
pub load_then_lem : (d : Device) (p : Pins) (a : ℕ) (w ys : List ℕ) (cs : List Cycle) → load_then d p a w ys cs ≡ load_then d p a w ys [] ++ cs
load_then_lem d p a w ys cs = go (rises_in w ys) (programs_then_lem d p (length w) a 0 w (base_of d.part w ys) [] cs)
  where
    go : (t : Bool) → programming_then d p a w ys cs ≡ programming_then d p a w ys [] ++ cs
        → opening_then p a (length w) (if t then erase_then d p a (programming_then d p a w ys cs) else programming_then d p a w ys cs)
        ≡ opening_then p a (length w) (if t then erase_then d p a (programming_then d p a w ys []) else programming_then d p a w ys []) ++ cs
    go true e =
        ap (λ (z : List Cycle). opening_then p a (length w) (erase_then d p a z)) e
        ∙ ap (λ (z : List Cycle). opening_then p a (length w) (bus_cycle p Write a 0x20 ∷ bus_cycle p Write a 0xD0 ∷ z)) (polls_then_lem p d.erase a (programming_then d p a w ys []) cs)
        ∙ ap (λ (z : List Cycle). bus_cycle p Write a 0x50 ∷ bus_cycle p Write a 0xFF ∷ z) (reads_then_lem p (length w) a 0 (erase_then d p a (programming_then d p a w ys [])) cs)
    go false e =
        ap (λ (z : List Cycle). opening_then p a (length w) z) e ∙ ap (λ (z : List Cycle). bus_cycle p Write a 0x50 ∷ bus_cycle p Write a 0xFF ∷ z) (reads_then_lem p (length w) a 0 (programming_then d p a w ys []) cs)

-- a proper idle start
module _ (j : Job) (xs w sc : List ℕ) (t : Taken j xs w sc) where
  abbrev a : ℕ
  a = start_of j.device.part j.block

  abbrev ys : List ℕ
  ys = held_in (start_of j.device.part j.block) (length w) xs

  abbrev load : RunLeft
  load = run_left (doing (Load false) j) xs w sc

  fits : a + length w ≤ length xs
  fits = grounds.fitting j xs w sc (none_refuses j xs w sc t)

  -- the state and the array that a good load leaves
  abbrev was : State
  was = erased_from (rises_in w ys) j.block j.state

  abbrev after : State
  after = is_at_rest was (loaded_mode w ys) 0x80

  abbrev laid : List ℕ
  laid = overlaid xs a w

  -- the verify from there
  abbrev next : Job
  next = job_of Verify j.device after j.pins j.block

  -- .. is a proper idle start again
  again : Taken next laid w w
  again =
      record {
        known = t.known;
        sized = overlaid_length xs a w fits ∙ t.sized;
        proper = parts_proper j.device after (rest_proper j.device was (loaded_mode w ys) 0x80 refl);
        idle = refl;
        block = t.block;
        wanted = t.wanted;
        scratch = t.wanted;
        up = t.up;
        levels = t.levels;
        programs = t.programs;
        erases = t.erases;
        bytes = t.bytes;
        held = cells_laid j.device.part xs a w fits t.held t.bytes;
      }

  rows : NoRow (run_rows next (length laid) (length w) (length w))
  unfolding run_first
  rows = given_no_row (run_rows next (length laid) (length w) (length w)) refl (none_refuses next laid w w again)

  -- the verify from there ends well
  verify_well : Verified next laid w w
  verify_well = verified next laid w w again.held rows

  held : held_in a (length w) laid ≡ w
  held = held_over xs w a fits

  verify_ran_lem : (run_left next laid w w).ran ≡ record { count = 1 + length w; end = 0; address = 0; state = is_at_rest was Array 0x80 }
  unfolding units_read verify_end verify_address
  verify_ran_lem = verify_well.ran ∙ ap (λ (z : List ℕ). verify_ran j.device.part after a w z) held ∙ rw (as_wanted_lem w) refl

  verify_scratch : (run_left next laid w w).scratch ≡ w
  unfolding units_read
  verify_scratch = verify_well.scratch ∙ ap (λ (z : List ℕ). overwritten (units_read w z) z w) held ∙ rw (as_wanted_lem w) (overwritten_all w w refl)

  verify_made : cycles_at next laid w w ≡ closing_of j.pins a (length w)
  unfolding units_read
  verify_made = verify_well.made ∙ ap (λ (z : List ℕ). closing_of j.pins a (units_read w z)) held ∙ rw (as_wanted_lem w) refl

  -- a load that ended well, and the run
  module _ (e : eqb (end_number j.device j.pins j.block w ys) 0 ≡ true) where
    loaded : load ≡ record { ran = well_ran false j.device j.state j.block w ys; bytes = laid; scratch = w }
    unfolding ran_as bytes_as scratch_as
    loaded =
        parts load (record { ran = well_ran false j.device j.state j.block w ys; bytes = laid; scratch = w })
        ((every_end false j xs w sc t).ran ∙ if_true (eqb (end_number j.device j.pins j.block w ys) 0) _ _ e)
        ((every_end false j xs w sc t).bytes ∙ if_true (eqb (end_number j.device j.pins j.block w ys) 0) _ _ e)
        ((every_end false j xs w sc t).scratch ∙ if_true (eqb (end_number j.device j.pins j.block w ys) 0) _ _ e)

    run_well : run_left (doing (Load true) j) xs w sc ≡ record { ran = well_ran true j.device j.state j.block w ys; bytes = laid; scratch = w }
    unfolding ran_as bytes_as scratch_as
    run_well =
        parts (run_left (doing (Load true) j) xs w sc) (record { ran = well_ran true j.device j.state j.block w ys; bytes = laid; scratch = w })
        ((every_end true j xs w sc t).ran ∙ if_true (eqb (end_number j.device j.pins j.block w ys) 0) _ _ e)
        ((every_end true j xs w sc t).bytes ∙ if_true (eqb (end_number j.device j.pins j.block w ys) 0) _ _ e)
        ((every_end true j xs w sc t).scratch ∙ if_true (eqb (end_number j.device j.pins j.block w ys) 0) _ _ e)

    well_load_verify : run_left (doing (Load true) j) xs w sc ≡ load_verify_left j xs w sc
    well_load_verify =
        run_well
        ∙ parts (record { ran = well_ran true j.device j.state j.block w ys; bytes = laid; scratch = w }) (verify_after j w (record { ran = well_ran false j.device j.state j.block w ys; bytes = laid; scratch = w }))
        ((λ i. record { count = sums i; end = 0; address = 0; state = is_at_rest was Array 0x80 }) ∙ ap (λ (r : Ran). counted_on (load_formula j.device w ys) r) (sym verify_ran_lem))
        (sym verify_well.bytes) (sym verify_scratch)
        ∙ ap (λ (l : RunLeft). then_verify j w l) (sym loaded)
      where
        sums : formula j.device w ys ≡ load_formula j.device w ys + (1 + length w)
        sums = formula_load_verify j.device w ys ∙ (let z : load_formula j.device w ys + (length w + 1) ≡ load_formula j.device w ys + (1 + length w) = omega arith in z)

    well_cycles : cycles_of_load j xs w sc ≡ load_verify_cycles j xs w sc
    unfolding cycles_as
    well_cycles =
        (every_end true j xs w sc t).made ∙ if_true (eqb (end_number j.device j.pins j.block w ys) 0) _ _ e
        ∙ load_then_lem j.device j.pins a w ys (closing_of j.pins a (length w))
        ∙ ap (λ (z : List Cycle). load_then j.device j.pins a w ys [] ++ z) (sym verify_made ∙ ap (λ (l : RunLeft). cycles_after j w l) (sym loaded))
        ∙ ap (λ (z : List Cycle). z ++ cycles_after j w load) (sym ((every_end false j xs w sc t).made ∙ if_true (eqb (end_number j.device j.pins j.block w ys) 0) _ _ e))

  -- a load that did not end well is the run
  module _ (e : eqb (end_number j.device j.pins j.block w ys) 0 ≡ false) where
    stopped : load.ran ≡ fault_ran j.device j.state j.pins w ys (end_number j.device j.pins j.block w ys)
    unfolding ran_as
    stopped = (every_end false j xs w sc t).ran ∙ if_false (eqb (end_number j.device j.pins j.block w ys) 0) _ _ e

    not_well : eqb load.ran.end 0 ≡ false
    not_well = ap (λ (r : Ran). eqb r.end 0) stopped ∙ e

    fault_load_verify : run_left (doing (Load true) j) xs w sc ≡ load_verify_left j xs w sc
    unfolding ran_as
    fault_load_verify =
        parts (run_left (doing (Load true) j) xs w sc) load
        ((every_end true j xs w sc t).ran ∙ if_false (eqb (end_number j.device j.pins j.block w ys) 0) _ _ e ∙ sym stopped)
        ((every_end true j xs w sc t).bytes ∙ sym (every_end false j xs w sc t).bytes)
        ((every_end true j xs w sc t).scratch ∙ sym (every_end false j xs w sc t).scratch)
        ∙ sym (if_false (eqb load.ran.end 0) (verify_after j w load) load not_well)

    fault_cycles : cycles_of_load j xs w sc ≡ load_verify_cycles j xs w sc
    unfolding cycles_as
    fault_cycles =
        (every_end true j xs w sc t).made ∙ if_false (eqb (end_number j.device j.pins j.block w ys) 0) _ _ e
        ∙ sym ((every_end false j xs w sc t).made ∙ if_false (eqb (end_number j.device j.pins j.block w ys) 0) _ _ e)
        ∙ sym (append-nil (cycles_at (doing (Load false) j) xs w sc))
        ∙ ap (λ (z : List Cycle). cycles_at (doing (Load false) j) xs w sc ++ z)
        (sym (if_false (eqb load.ran.end 0) (cycles_at (verify_from j load) load.bytes w load.scratch) [] not_well))

  pub taken_load_verify : (run_left (doing (Load true) j) xs w sc ≡ load_verify_left j xs w sc) × (cycles_of_load j xs w sc ≡ load_verify_cycles j xs w sc)
  taken_load_verify = go (eqb (end_number j.device j.pins j.block w ys) 0) refl
    where
      go : (z : Bool) → eqb (end_number j.device j.pins j.block w ys) 0 ≡ z → (run_left (doing (Load true) j) xs w sc ≡ load_verify_left j xs w sc) × (cycles_of_load j xs w sc ≡ load_verify_cycles j xs w sc)
      go true e = (well_load_verify e, well_cycles e)
      go false e = (fault_load_verify e, fault_cycles e)

-- whatever is lent: a refusal is the same for the run and the load
pub run_load_verify : (j : Job) (xs w sc : List ℕ) → j.device.program ≤ 65535 → j.device.erase ≤ 65535 → Cells j.device.part w → Cells j.device.part xs
    → run_left (doing (Load true) j) xs w sc ≡ load_verify_left j xs w sc
run_load_verify j xs w sc programs erases bytes cells = go (eqb (run_number j (length xs) (length w) (length sc)) 0) refl
  where
    go : (t : Bool) → eqb (run_number j (length xs) (length w) (length sc)) 0 ≡ t → run_left (doing (Load true) j) xs w sc ≡ load_verify_left j xs w sc
    go true e = (taken_load_verify j xs w sc (taken_if j xs w sc (eqb-true _ _ e) programs erases bytes cells)).0
    go false e =
        left_refused (doing (Load true) j) xs w sc (eqb-false _ _ e)
        ∙ sym (if_false (eqb (run_number j (length xs) (length w) (length sc)) 0) (verify_after j w (run_refused (run_number j (length xs) (length w) (length sc)) j.state xs sc)) (run_refused (run_number j (length xs) (length w) (length sc)) j.state xs sc) e)
        ∙ ap (λ (l : RunLeft). then_verify j w l) (sym (left_refused (doing (Load false) j) xs w sc (eqb-false _ _ e)))
