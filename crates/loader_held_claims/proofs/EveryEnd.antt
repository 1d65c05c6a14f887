-- Every end of a load with interruptions that nothing refuses, as one statement.
use mathlib.Core.Path.{◌≡◌, refl, sym, ap, ◌∙◌, subst}
use mathlib.Core.Bool.{Bool, true, false, ◌&&◌}
use mathlib.Core.List.{List, [], ◌∷◌, ◌++◌, append-nil}
use Prim.Native.Nat.{ℕ, suc, ◌+◌, ◌-◌, ◌*◌, ◌≤◌, ◌<◌}
use native.Mathlib.Nat.{one-mul}
use native.Mathlib.Omega.{arith}
use lib.ListN.{length, replicate, length-replicate}
use lib.Dec.{eqb}
use lib.Bits.{bit_or}
use borrow.Author.Tests.{eq-eqb}
use Rattle.std.specs.Prelude.{if◌then◌else◌}
use Rattle.common.proofs.Choice.{if_true, if_false, unlike}
use Rattle.common.specs.Lists.{overlaid}
use Rattle.device.specs.declared.Device.{Device}
use Rattle.device.specs.Parts.{start_of}
use Rattle.model_types.specs.Cells.{ones}
use Rattle.model_types.specs.declared.Pins.{Pins}
use Rattle.model_types.specs.declared.Kind.TheVariants.{Write}
use Rattle.model_types.specs.declared.Mode.TheVariants.{Array, Status}
use Rattle.model_types.specs.declared.Phase.TheVariants.{Free}
use Rattle.model_types.specs.declared.Effect.{Effect}
use Rattle.model_types.specs.declared.Effect.TheVariants.{Erase}
use Rattle.model_types.specs.declared.Cycle.{Cycle}
use Rattle.model_types.specs.Counts.{worn}
use Rattle.model_levels.specs.Levels.{vpp_low, unlocked}
use Rattle.model.proofs.Status.{fits}
use Rattle.loader_walk.specs.Walks.{rises_in}
use Rattle.loader.specs.Stages.{is_ended}
use Rattle.loader.specs.Statuses.{is_ready, erase_end, both_errors}
use Rattle.loader_steps.specs.Front.{end_address}
use Rattle.loader_run.specs.declared.Ran.{Ran}
use Rattle.loader_run.specs.Turns.{Config, after}
use Rattle.loader_run.specs.Inner.{bound}
use Rattle.loader_run.specs.Runs.{driven, ran_by, RunLeft, run_made, run_end, run_left, doing}
use Rattle.loader_run.proofs.Leaving.{left_made}
use Rattle.loader_run.proofs.Ending.{always_ends}
use Rattle.loader_run_claims.specs.Made.{opening_then, programs_then, closing_by, cycles_at, bus_cycle as cyc}
use Rattle.loader_run_claims.specs.Wear.{begun_at, programs_of, differing, programs_in, formula_by}
use Rattle.loader_run_claims.specs.Ends.{as_wanted, shut, end_number, fault_status, loaded_mode, end_mode, ran_as, bytes_as, scratch_as, cycles_as}
use Rattle.loader_run_claims.specs.Ends as ends
use Rattle.loader_run_claims.specs.Mission.{Taken}
use Rattle.loader_run_claims.proofs.Answers.{Up, Ready, Stuck, unsupplied_stuck, locked_stuck}
use Rattle.loader_run_claims.proofs.LoadLists.{over_self, cells_laid}
use Rattle.loader_run_claims.proofs.SameBlock.{risen_differs}
use Rattle.loader_run_claims.proofs.Phases as phases
use Rattle.loader_run_claims.proofs.Demand.{good_load, erase_load}
use Rattle.loader_run_claims.proofs.Total as total
use Rattle.loader_held.specs.Holds.{listed, usual}
use Rattle.loader_held_run.specs.HeldTurns.{HeldConfig, bare, beside}
use Rattle.loader_held_claims.specs.HeldMade.{HeldReach, Elsewhere, filled_by, erase_polls, polls_cost, room_over, interrupts, added_in}
use Rattle.loader_held_claims.specs.HeldEnds.{erases, tried_poll, added_tried, added_by, ends_turned, ran_more, held_ran_as, room_as, held_cycles_as, HeldEnds}
use Rattle.loader_held_claims.proofs.HeldReaching.{arrive}
use Rattle.loader_held_claims.proofs.Lifting.{lift_then}
use Rattle.loader_held_claims.proofs.Rooms.{cells_blank, same_elsewhere, room_is, cost_is}
use Rattle.loader.specs.declared.Work.TheVariants.{Load}
use Rattle.loader_run.specs.declared.Job.{Job}
use Rattle.loader_held_claims.proofs.Starting as start
use Rattle.loader_held_claims.proofs.EraseTried as trying
use Rattle.loader_held_claims.proofs.FromErase as whole

-- nothing added to what a load returns
none_more : (r : Ran) (n : ℕ) (b : Bool) → n ≡ 0 → b ≡ false → r ≡ ran_more r n b
none_more r n b e f =
    (λ i. record { count = sym (let z : r.count + 0 ≡ r.count = omega arith in z) i; end = r.end; address = r.address; state = r.state })
    ∙ (λ i. ran_more r (sym e i) (sym f i))

-- the count of a load that erases, with so many cycles added
summed : (v : Bool) (n E A Q : ℕ) → 2 + n + 1 + 1 + (E + A) + Q + (if v then 1 + n else 0) ≡ (if v then 2 * n + 3 + 1 * (2 + E) + Q else n + 2 + 1 * (2 + E) + Q) + A
summed true n E A Q = rw (one-mul (2 + E)) (omega arith)
summed false n E A Q = rw (one-mul (2 + E)) (omega arith)

module _ (d : Device) (p : Pins) (k : ℕ) (w ys bs ps : List ℕ) where
  -- where no bit must rise nothing is added, and nothing is read
  added_none : rises_in w ys ≡ false → added_by d p k w ys bs ps ≡ 0
  unfolding added_by
  added_none e = if_false (rises_in w ys) _ 0 e

  erases_not : rises_in w ys ≡ false → erases d p k w ys ≡ false
  unfolding erases
  erases_not e = ap (λ (b : Bool). b && eqb (end_number d p k w ys) 0) e

  turned_none : erases d p k w ys ≡ false → ends_turned d p k w ys ps ≡ false
  unfolding ends_turned
  turned_none e = ap (λ (b : Bool). (b && eqb (programs_in d.part w ys) 0) && listed d.erase ps) e

  room_none : (xs room : List ℕ) → erases d p k w ys ≡ false → room_as d p k w ys xs bs ps room ≡ room
  unfolding room_as
  room_none xs room e = ap (λ (b : Bool). if b && interrupts ps 0 d.erase then filled_by xs bs room else room) e

  cycles_none : (verify : Bool) (a : ℕ) → rises_in w ys ≡ false → held_cycles_as verify d p k a w ys bs ps ≡ cycles_as verify d p k a w ys
  unfolding held_cycles_as
  cycles_none verify a e = if_false (rises_in w ys) _ _ e

  -- where some bit must rise and the erase cannot start
  module _ (n : ℕ) (rise : rises_in w ys ≡ true) (e : end_number d p k w ys ≡ n) (z : eqb n 0 ≡ false) where
    added_tried_lem : added_by d p k w ys bs ps ≡ added_tried ps
    unfolding added_by
    added_tried_lem = rw (rise, e, z) refl

    erases_fails : erases d p k w ys ≡ false
    unfolding erases
    erases_fails = rw (rise, e, z) refl

    cycles_tried : (verify : Bool) (a : ℕ) → held_cycles_as verify d p k a w ys bs ps ≡ opening_then p a (length w) (cyc p Write a 0x20 ∷ cyc p Write a 0xD0 ∷ tried_poll p a ps)
    unfolding held_cycles_as
    cycles_tried verify a = rw (rise, e, z) refl

  -- .. and where it can
  module _ (rise : rises_in w ys ≡ true) (e : end_number d p k w ys ≡ 0) where
    added_held : added_by d p k w ys bs ps ≡ added_in d bs ps 0 d.erase
    unfolding added_by
    added_held = rw (rise, e) refl

    erases_well : erases d p k w ys ≡ true
    unfolding erases
    erases_well = rw (rise, e) refl

    turned_held : ends_turned d p k w ys ps ≡ (eqb (programs_in d.part w ys) 0 && listed d.erase ps)
    unfolding ends_turned
    turned_held = ap (λ (b : Bool). (b && eqb (programs_in d.part w ys) 0) && listed d.erase ps) erases_well

    room_held : (xs room : List ℕ) → room_as d p k w ys xs bs ps room ≡ (if interrupts ps 0 d.erase then filled_by xs bs room else room)
    unfolding room_as
    room_held xs room = ap (λ (b : Bool). if b && interrupts ps 0 d.erase then filled_by xs bs room else room) erases_well

    cycles_held : (verify : Bool) (a : ℕ) → held_cycles_as verify d p k a w ys bs ps
        ≡ opening_then p a (length w) (cyc p Write a 0x20 ∷ cyc p Write a 0xD0 ∷ erase_polls d p a bs ps 0 d.erase (programs_then d p (length w) a 0 w (replicate (length w) (ones d.part)) (closing_by verify p a (length w))))
    unfolding held_cycles_as
    cycles_held verify a = rw (rise, e) refl

module _ (verify : Bool) (j : Job) (xs w sc : List ℕ) (t : Taken j xs w sc) (bs ps room : List ℕ) where
  abbrev a : ℕ
  a = start_of j.device.part j.block

  abbrev ys : List ℕ
  ys = start.ys verify j xs w sc t

  abbrev Ends : Type 0
  Ends = HeldEnds verify j xs w sc bs ps room

  abbrev started : Config
  started = start.started verify j xs w sc t

  -- the old load's end
  abbrev A : Config
  A = after (bound (length w)) j.device w started

  old_ended : is_ended A.loader.stage ≡ true
  unfolding driven
  old_ended = always_ends j.device w started

  old_left : run_left (doing (Load verify) j) xs w sc ≡ run_made A
  unfolding run_end driven
  old_left = left_made (doing (Load verify) j) xs w sc (start.n0 verify j xs w sc t)

  every : ends.Whole verify j xs w sc
  every = total.every_end verify j xs w sc t

  -- no bit must rise: it is the old load
  lifted : rises_in w ys ≡ false → HeldReach j.device w bs ps (beside started (usual 0) room) (beside A (usual 0) room) (begun_at (doing (Load verify) j) xs w sc) (cycles_as verify j.device j.pins j.block a w ys)
  lifted rise =
      let L = lift_then j.device w bs ps room 0 (beside A (usual 0) room) [] [] (bound (length w)) started (start.quiet verify j xs w sc t rise (bound (length w))) every.smooth
      (arrive j.device w bs ps (beside A (usual 0) room) (beside A (usual 0) room) refl) in
      subst (λ (z : List Cycle). HeldReach j.device w bs ps (beside started (usual 0) room) (beside A (usual 0) room) (begun_at (doing (Load verify) j) xs w sc) z) (append-nil (cycles_at (doing (Load verify) j) xs w sc) ∙ every.made)
      (subst (λ (z : List Effect). HeldReach j.device w bs ps (beside started (usual 0) room) (beside A (usual 0) room) z (cycles_at (doing (Load verify) j) xs w sc ++ [])) (append-nil (begun_at (doing (Load verify) j) xs w sc)) L)

  unrisen : rises_in w ys ≡ false → Ends
  unfolding held_ran_as
  unrisen rise =
      let no = erases_not j.device j.pins j.block w ys bs ps rise in
      record {
        last = beside A (usual 0) room;
        reach = subst (λ (z : List Cycle). HeldReach j.device w bs ps (beside started (usual 0) room) (beside A (usual 0) room) (begun_at (doing (Load verify) j) xs w sc) z) (sym (cycles_none j.device j.pins j.block w ys bs ps verify a rise)) (lifted rise);
        ended = old_ended;
        ran = sym (ap (λ (r : RunLeft). r.ran) old_left) ∙ every.ran ∙ none_more (ran_as verify j w ys) (added_by j.device j.pins j.block w ys bs ps) (ends_turned j.device j.pins j.block w ys ps) (added_none j.device j.pins j.block w ys bs ps rise) (turned_none j.device j.pins j.block w ys bs ps no);
        bytes = sym (ap (λ (r : RunLeft). r.bytes) old_left) ∙ every.bytes;
        scratch = sym (ap (λ (r : RunLeft). r.scratch) old_left) ∙ every.scratch;
        filled = sym (room_none j.device j.pins j.block w ys bs ps xs room no);
      }

  -- the erase cannot start
  fault_ran : (n x : ℕ) → end_number j.device j.pins j.block w ys ≡ n → eqb n 0 ≡ false → eqb n 25 ≡ false → fault_status j.device j.pins w ys ≡ x → rises_in w ys ≡ true
      → ran_by (bare (trying.failed verify j xs w sc t bs ps room n x (length w + 5 + added_tried ps))) ≡ held_ran_as verify j w ys bs ps
  unfolding held_ran_as ran_as end_address
  fault_ran n x e z y q rise =
      rw (e, z, y, added_tried_lem j.device j.pins j.block w ys bs ps n rise e z, turned_none j.device j.pins j.block w ys bs ps (erases_fails j.device j.pins j.block w ys bs ps n rise e z), q) refl

  fault_bytes : (n : ℕ) → end_number j.device j.pins j.block w ys ≡ n → eqb n 0 ≡ false → xs ≡ bytes_as j.device j.pins j.block a w ys xs
  unfolding bytes_as
  fault_bytes n e z = rw (e, z) refl

  fault_scratch : (n : ℕ) → end_number j.device j.pins j.block w ys ≡ n → eqb n 0 ≡ false → ys ≡ scratch_as j.device j.pins j.block w ys
  unfolding scratch_as
  fault_scratch n e z = rw (e, z) refl

  fault : (n x : ℕ) → end_number j.device j.pins j.block w ys ≡ n → eqb n 0 ≡ false → eqb n 25 ≡ false → fault_status j.device j.pins w ys ≡ x → rises_in w ys ≡ true → begun_at (doing (Load verify) j) xs w sc ≡ []
      → HeldReach j.device w bs ps (beside started (usual 0) room) (trying.failed verify j xs w sc t bs ps room n x (length w + 5 + added_tried ps)) []
      (opening_then j.pins a (length w) (cyc j.pins Write a 0x20 ∷ cyc j.pins Write a 0xD0 ∷ tried_poll j.pins a ps))
      → Ends
  fault n x e z y q rise none r =
      let end : HeldConfig = trying.failed verify j xs w sc t bs ps room n x (length w + 5 + added_tried ps) in
      record {
        last = end;
        reach =
            subst (λ (cs : List Cycle). HeldReach j.device w bs ps (beside started (usual 0) room) end (begun_at (doing (Load verify) j) xs w sc) cs) (sym (cycles_tried j.device j.pins j.block w ys bs ps n rise e z verify a))
            (subst (λ (es : List Effect). HeldReach j.device w bs ps (beside started (usual 0) room) end es (opening_then j.pins a (length w) (cyc j.pins Write a 0x20 ∷ cyc j.pins Write a 0xD0 ∷ tried_poll j.pins a ps))) (sym none) r);
        ended = refl;
        ran = fault_ran n x e z y q rise;
        bytes = fault_bytes n e z;
        scratch = fault_scratch n e z;
        filled = sym (room_none j.device j.pins j.block w ys bs ps xs room (erases_fails j.device j.pins j.block w ys bs ps n rise e z));
      }

  -- .. with the error bits that come of it
  stuck : (low x n : ℕ) → Stuck j.device j.pins j.block low → bit_or (bit_or 128 low) 32 ≡ x → fits 2 x ≡ true → is_ready x ≡ true → erase_end x ≡ n → end_number j.device j.pins j.block w ys ≡ n → eqb n 0 ≡ false → eqb n 25 ≡ false → fault_status j.device j.pins w ys ≡ x
      → rises_in w ys ≡ true → Ends
  stuck low x n st q f ready e g z y o rise =
      fault n x g z y o rise (erase_load verify j xs w sc t low x n st q f ready e z rise).begun
      (trying.tried verify j xs w sc t bs ps room low x n st q f ready e z rise)

  -- the erase can start
  module _ (els : Elsewhere j.device j.block bs) (roomy : length bs ≤ length room) (high : vpp_low j.device.part j.pins ≡ false) (unlock : j.block ≡ 0 → unlocked j.device.part j.pins 0 ≡ true) (rise : rises_in w ys ≡ true) (z : end_number j.device j.pins j.block w ys ≡ 0) where
    u : Up j.device j.pins
    u = start.u verify j xs w sc t

    ready : Ready j.device j.pins j.block
    ready = record { base = u; high = high; unlock = unlock }

    some : 0 < length w
    some = start.some verify j xs w sc t

    ly : length ys ≡ length w
    ly = start.ly verify j xs w sc t

    s0 : 0 < j.device.suspend
    s0 = start.s0 verify j xs w sc t

    s1 : j.device.suspend ≤ 65535
    s1 = start.s1 verify j xs w sc t

    e0 : 0 < j.device.erase
    e0 = start.e0 verify j xs w sc t

    p0 : 0 < j.device.program
    p0 = start.p0 verify j xs w sc t

    abbrev blank : List ℕ
    blank = replicate (length w) (ones j.device.part)

    lb : length blank ≡ length w
    lb = length-replicate (length w) (ones j.device.part)

    abbrev E : ℕ
    E = suc (j.device.erase - 1)

    E-is : E ≡ j.device.erase
    E-is = omega (arith, e0)

    abbrev last : HeldConfig
    last =
        beside (whole.end verify j.device j.pins j.block ready j.state w t.wanted some t.bytes xs t.sized ys ly bs ps room els roomy s0 s1 e0 t.erases p0 t.programs rise)
        (usual (0 + (j.device.erase - 1 + 1)))
        (whole.room' verify j.device j.pins j.block ready j.state w t.wanted some t.bytes xs t.sized ys ly bs ps room els roomy s0 s1 e0 t.erases p0 t.programs rise)

    abbrev begins : List Effect
    begins = Erase j.block ∷ programs_of (length w) a 0 w blank

    abbrev makes : ℕ → List Cycle
    makes m = opening_then j.pins a (length w) (cyc j.pins Write a 0x20 ∷ cyc j.pins Write a 0xD0 ∷ erase_polls j.device j.pins a bs ps 0 m (programs_then j.device j.pins (length w) a 0 w blank (closing_by verify j.pins a (length w))))

    reached : HeldReach j.device w bs ps (beside started (usual 0) room) last begins (makes E)
    reached =
        start.opened verify j xs w sc t rise bs ps room last begins _
        (whole.asks verify j.device j.pins j.block ready j.state w t.wanted some t.bytes xs t.sized ys ly bs ps room els roomy s0 s1 e0 t.erases p0 t.programs rise
        (cells_laid j.device.part xs a ys (omega (arith, start.fits_in verify j xs w sc t, ly)) t.held (start.cy verify j xs w sc t))
        (cells_laid j.device.part xs a blank (omega (arith, start.fits_in verify j xs w sc t, lb)) t.held (cells_blank j.device.part (length w)))
        (same_elsewhere j.device j.block xs ys blank (ly ∙ t.wanted) (lb ∙ t.wanted) (omega (arith, start.fits_in verify j xs w sc t, t.wanted)) bs els))

    begun_is : begins ≡ begun_at (doing (Load verify) j) xs w sc
    begun_is = sym ((good_load verify j xs w sc t high unlock).begun ∙ (rw rise refl))

    made_is : makes E ≡ held_cycles_as verify j.device j.pins j.block a w ys bs ps
    made_is = ap makes E-is ∙ sym (cycles_held j.device j.pins j.block w ys bs ps rise z verify a)

    -- the programs that follow the erase
    programs_are : differing (length w) 0 w blank ≡ programs_in j.device.part w ys
    programs_are = rw rise refl

    count_is : last.count ≡ formula_by verify j.device w ys + added_by j.device j.pins j.block w ys bs ps
    count_is =
        (λ i. 2 + length w + 1 + 1 + cost i + phases.costs_are verify j.device j.pins j.block u j.state w t.wanted some xs t.sized (length w) 0 blank i + (if verify then 1 + length w else 0))
        ∙ summed verify (length w) j.device.erase (added_in j.device bs ps 0 j.device.erase) (differing (length w) 0 w blank * (2 + j.device.program))
        ∙ (λ i. formula_is i + sym (added_held j.device j.pins j.block w ys bs ps rise z) i)
      where
        cost : polls_cost j.device bs ps 0 E ≡ j.device.erase + added_in j.device bs ps 0 j.device.erase
        cost = cost_is j.device bs ps E 0 ∙ ap (λ (m : ℕ). m + added_in j.device bs ps 0 m) E-is

        formula_is : (if verify then 2 * length w + 3 + 1 * (2 + j.device.erase) + differing (length w) 0 w blank * (2 + j.device.program) else length w + 2 + 1 * (2 + j.device.erase) + differing (length w) 0 w blank * (2 + j.device.program)) ≡ formula_by verify j.device w ys
        formula_is = rw rise refl

    mode_is : last.state.mode ≡ (if ends_turned j.device j.pins j.block w ys ps then Array else end_mode verify w ys)
    mode_is =
        go verify (eqb (differing (length w) 0 w blank) 0) (listed (0 + (j.device.erase - 1 + 1)) ps)
        ∙ (λ i. if turned i then Array else (if verify then Array else differs i))
      where
        turned : (eqb (differing (length w) 0 w blank) 0 && listed (0 + (j.device.erase - 1 + 1)) ps) ≡ ends_turned j.device j.pins j.block w ys ps
        turned =
            (λ i. eqb (programs_are i) 0 && listed ((let y : 0 + (j.device.erase - 1 + 1) ≡ j.device.erase = omega (arith, e0) in y) i) ps)
            ∙ sym (turned_held j.device j.pins j.block w ys bs ps rise z)

        differs : Status ≡ loaded_mode w ys
        differs = sym (if_false (as_wanted w ys) Array Status (risen_differs w ys ly rise))

        go : (v b l : Bool) → (if v then Array else (if b then (if l then Array else Status) else Status)) ≡ (if b && l then Array else (if v then Array else Status))
        go true true true = refl
        go true true false = refl
        go true false l = refl
        go false true true = refl
        go false true false = refl
        go false false l = refl

    ran_is : ran_by (bare last) ≡ held_ran_as verify j w ys bs ps
    unfolding held_ran_as ran_as end_address
    ran_is =
        rw z (λ i. record {
          count = count_is i;
          end = 0;
          address = 0;
          state = record { mode = mode_is i; status = 0x80; phase = Free; left = 0; address = 0; wear = sym (if_true (rises_in w ys) (worn j.state.wear j.block) j.state.wear rise) i };
        })

    bytes_is : overlaid xs a w ≡ bytes_as j.device j.pins j.block a w ys xs
    unfolding bytes_as
    bytes_is = rw z refl

    scratch_is : w ≡ scratch_as j.device j.pins j.block w ys
    unfolding scratch_as
    scratch_is = rw z refl

    room_is_held : last.room ≡ room_as j.device j.pins j.block w ys xs bs ps room
    room_is_held =
        (λ i. room_over (over_self xs a (length w) (start.fits_in verify j xs w sc t) i) bs ps 0 (E-is i) room)
        ∙ room_is xs bs ps j.device.erase 0 room
        ∙ sym (room_held j.device j.pins j.block w ys bs ps rise z xs room)

    good : Ends
    good =
        record {
          last = last;
          reach =
              subst (λ (cs : List Cycle). HeldReach j.device w bs ps (beside started (usual 0) room) last (begun_at (doing (Load verify) j) xs w sc) cs) made_is
              (subst (λ (es : List Effect). HeldReach j.device w bs ps (beside started (usual 0) room) last es (makes E)) begun_is reached);
          ended = refl;
          ran = ran_is;
          bytes = bytes_is;
          scratch = scratch_is;
          filled = room_is_held;
        }

  pub every_end : Elsewhere j.device j.block bs → length bs ≤ length room → Ends
  unfolding end_number fault_status shut erase_end both_errors
  every_end els roomy = rises (rises_in w ys) refl
    where
      boot : vpp_low j.device.part j.pins ≡ false → as_wanted w ys ≡ false → eqb j.block 0 ≡ true → (f : Bool) → unlocked j.device.part j.pins 0 ≡ f → rises_in w ys ≡ true → Ends
      boot v o z true f r = good els roomy v (λ q. f) r (simp (o, v, z, f))
      boot v o z false f r = stuck 0 160 23 (locked_stuck j.device j.pins j.block v z f) refl refl refl refl (simp (o, v, z, f, r)) refl refl (simp (v, r)) r

      blocks : vpp_low j.device.part j.pins ≡ false → as_wanted w ys ≡ false → (z : Bool) → eqb j.block 0 ≡ z → rises_in w ys ≡ true → Ends
      blocks v o true z r = boot v o z (unlocked j.device.part j.pins 0) refl r
      blocks v o false z r = good els roomy v (λ q. absurd (unlike (sym (eq-eqb j.block 0 q) ∙ z))) r (simp (o, v, z))

      supply : as_wanted w ys ≡ false → (v : Bool) → vpp_low j.device.part j.pins ≡ v → rises_in w ys ≡ true → Ends
      supply o true v r = stuck 8 168 21 (unsupplied_stuck j.device j.pins j.block v) refl refl refl refl (simp (o, v)) refl refl (simp (v, r)) r
      supply o false v r = blocks v o (eqb j.block 0) refl r

      rises : (r : Bool) → rises_in w ys ≡ r → Ends
      rises true r = supply (risen_differs w ys (start.ly verify j xs w sc t) r) (vpp_low j.device.part j.pins) refl r
      rises false r = unrisen r
