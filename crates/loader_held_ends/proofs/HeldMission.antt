-- Demand 3 of a load with interruptions: what it leaves and begins is what the old load leaves and begins.
use mathlib.Core.Path.{◌≡◌, refl, sym, ap, ◌∙◌, subst}
use mathlib.Core.Bool.{Bool, true, false, not, ◌&&◌}
use mathlib.Core.List.{List}
use Prim.Native.Nat.{ℕ, ◌+◌, ◌*◌, ◌≤◌, min}
use native.Mathlib.Omega.{arith}
use lib.ListN.{length, get_or}
use lib.Dec.{eqb}
use borrow.Author.Tests.{eqb-true}
use Rattle.std.specs.Prelude.{if◌then◌else◌}
use Rattle.device.specs.declared.Device.{Device}
use Rattle.device.specs.Parts.{start_of}
use Rattle.model_types.specs.Cells.{Cells}
use Rattle.model_types.specs.declared.Pins.{Pins}
use Rattle.model_types.specs.declared.Wear.{Wear}
use Rattle.model_types.specs.declared.Effect.{Effect}
use Rattle.model_types.specs.declared.Effect.TheVariants.{Nothing}
use Rattle.model_types.specs.Counts.{stop, count_of}
use Rattle.model_levels.specs.Levels.{vpp_low, unlocked}
use Rattle.model_levels.proofs.Bands.{not_low}
use Rattle.model_history.specs.History.{Bus, World, world_of, world_after, begun_over, total_of, erase_of, program_of, erases_begun, programs_begun}
use Rattle.loader_walk.specs.Walks.{rises_in}
use Rattle.loader_run.specs.declared.Ran.{Ran}
use Rattle.loader_run_claims.specs.Wear.{held_in, held_by, formula_by}
use Rattle.loader_run_claims.specs.Ends.{as_wanted, shut, end_number, Whole}
use Rattle.loader_run_claims.specs.Mission.{Taken, Brings, own_cycles, NoFewer, Demand3}
use Rattle.loader_run_claims.proofs.OwnHistory.{noted_total}
use Rattle.loader_run_claims.proofs.Total as total
use Rattle.loader_run_claims.proofs.Mission as mission
use Rattle.loader_held_run.specs.HeldTurns.{HeldConfig}
use Rattle.loader_held_run.specs.HeldRuns.{held_bound, held_driven, held_beginning, held_ran}
use Rattle.loader_held_claims.specs.HeldMade.{filled_by, interrupts, interruptions, added_in}
use Rattle.loader_held_claims.specs.HeldEnds.{erases, added_by, ends_turned, ran_more, held_ran_as, room_as}
use Rattle.loader_held_claims.proofs.Rooms.{added_most}
use Rattle.loader_held_ends.specs.HeldMission.{held_end, held_cycles, own_held, HeldWhole, HeldStart, HeldDemand3}
use Rattle.loader_held_ends.proofs.HeldGrounds.{counts_end, whole}
use Rattle.loader.specs.declared.Work.TheVariants.{Load}
use Rattle.loader_run.specs.declared.Job.{Job}
use Rattle.loader_run.specs.Runs.{run_left, doing}
use Rattle.loader_held_ends.proofs.HeldHistory as own

-- where VPP is high and the block not shut, a load ends well
pub ends_well_lem : (d : Device) (p : Pins) (k : ℕ) (w ys : List ℕ) → vpp_low d.part p ≡ false → (k ≡ 0 → unlocked d.part p 0 ≡ true) → end_number d p k w ys ≡ 0
unfolding end_number shut
ends_well_lem d p k w ys v unlock = go (eqb k 0) refl
  where
    either : (b : Bool) → ◌≡◌ {A = ℕ} (if b then 0 else 0) 0
    either true = refl
    either false = refl

    go : (t : Bool) → eqb k 0 ≡ t → ◌≡◌ {A = ℕ} (if as_wanted w ys then 0 else if vpp_low d.part p then 21 else if eqb k 0 && not (unlocked d.part p 0) then (if rises_in w ys then 23 else 24) else 0) 0
    go true z = rw (v, z, unlock (eqb-true k 0 z)) (either (as_wanted w ys))
    go false z = rw (v, z) (either (as_wanted w ys))

module _ (d : Device) (p : Pins) (k : ℕ) (w ys bs ps : List ℕ) (z : end_number d p k w ys ≡ 0) where
  -- what is then added, and the room
  added_is : added_by d p k w ys bs ps ≡ (if rises_in w ys then added_in d bs ps 0 d.erase else 0)
  unfolding added_by
  added_is = rw z refl

  room_is : (xs room : List ℕ) → room_as d p k w ys xs bs ps room ≡ (if rises_in w ys && interrupts ps 0 d.erase then filled_by xs bs room else room)
  unfolding room_as erases
  room_is xs room = rw z (go (rises_in w ys))
    where
      go : (t : Bool) → (if (t && true) && interrupts ps 0 d.erase then filled_by xs bs room else room) ≡ (if t && interrupts ps 0 d.erase then filled_by xs bs room else room)
      go true = refl
      go false = refl

module _ (verify : Bool) (j : Job) (xs w sc bs ps room : List ℕ) (start : HeldStart verify j xs w sc bs ps room) where
  t : Taken j xs w sc
  t = start.base.base

  H : HeldWhole verify j xs w sc bs ps room
  H = whole verify j xs w sc t bs ps room start.elsewhere start.roomy

  W : Whole verify j xs w sc
  W = total.every_end verify j xs w sc t

  o : Demand3 verify j xs w sc
  o = mission.demand_3 verify j xs w sc start.base

  abbrev a : ℕ
  a = start_of j.device.part j.block

  abbrev ys : List ℕ
  ys = held_in (start_of j.device.part j.block) (length w) xs

  abbrev E : HeldConfig
  E = held_end verify j xs w sc bs ps room

  abbrev R : Ran
  R = (run_left (doing (Load verify) j) xs w sc).ran

  held_is : ys ≡ held_by j.device.part j.block xs
  held_is = ap (λ (n : ℕ). held_in a n xs) t.wanted

  number : end_number j.device j.pins j.block w ys ≡ 0
  number = ends_well_lem j.device j.pins j.block w ys (not_low j.device.part j.pins start.base.high) start.base.unlock

  -- what the old load returns, with cycles more
  ran_is : held_ran E ≡ ran_more R (added_by j.device j.pins j.block w ys bs ps) (ends_turned j.device j.pins j.block w ys ps)
  unfolding held_ran_as
  ran_is = H.ran ∙ ap (λ (r : Ran). ran_more r (added_by j.device j.pins j.block w ys bs ps) (ends_turned j.device j.pins j.block w ys ps)) (sym W.ran)

  same_bytes : E.bytes ≡ (run_left (doing (Load verify) j) xs w sc).bytes
  same_bytes = H.bytes ∙ sym W.bytes

  wear_is : E.state.wear ≡ R.state.wear
  wear_is = ap (λ (r : Ran). r.state.wear) ran_is

  block_holds : held_by j.device.part j.block E.bytes ≡ w
  block_holds = ap (λ (z : List ℕ). held_by j.device.part j.block z) same_bytes ∙ o.block

  abbrev mine : List Bus
  mine = own_held verify j xs w sc bs ps room

  leads : world_after j.device (world_of j.state xs) mine ≡ world_of E.state E.bytes
  unfolding held_driven
  leads = own.own_leads j.device w bs ps (held_bound (length w) (length bs)) (held_beginning (doing (Load verify) j) xs sc room)

  -- it weighs what the old load weighs
  weighs : (f : Effect → ℕ) → f Nothing ≡ 0 → total_of f (begun_over j.device (world_of j.state xs) mine) ≡ total_of f (begun_over j.device (world_of j.state xs) (own_cycles verify j xs w sc))
  weighs f z =
      sym (noted_total f z (begun_over j.device (world_of j.state xs) mine))
      ∙ ap (λ (es : List Effect). total_of f es) (own.own_begins j.device w bs ps (held_bound (length w) (length bs)) (held_beginning (doing (Load verify) j) xs sc room) ∙ H.begun ∙ sym o.own_begins)
      ∙ noted_total f z (begun_over j.device (world_of j.state xs) (own_cycles verify j xs w sc))

  least_wear : Cells j.device.part xs → (other : List Bus) → Brings j.device (world_of j.state xs) j.block w other → NoFewer j.device (world_of j.state xs) j.block mine other
  least_wear bx other h =
      let m = o.least_wear bx other h in
      record {
        erases = subst (λ (n : ℕ). n ≤ erases_begun j.device (world_of j.state xs) j.block other) (sym (weighs (erase_of j.block) refl)) m.erases;
        programs = subst (λ (n : ℕ). n ≤ programs_begun j.device (world_of j.state xs) j.block other) (sym (weighs (program_of j.device.part j.block) refl)) m.programs;
      }

  by_formula : (held_ran E).count ≡ formula_by verify j.device w (held_by j.device.part j.block xs) + (if rises_in w (held_by j.device.part j.block xs) then added_in j.device bs ps 0 j.device.erase else 0)
  by_formula =
      ap (λ (r : Ran). r.count) ran_is
      ∙ (λ i. o.by_formula i + (added_is j.device j.pins j.block w ys bs ps number ∙ ap (λ (z : List ℕ). if rises_in w z then added_in j.device bs ps 0 j.device.erase else 0) held_is) i)

  at_most : (held_ran E).count ≤ formula_by verify j.device w (held_by j.device.part j.block xs) + interruptions ps 0 j.device.erase * (j.device.suspend + length bs + 4)
  at_most = subst (λ (n : ℕ). n ≤ formula_by verify j.device w (held_by j.device.part j.block xs) + interruptions ps 0 j.device.erase * (j.device.suspend + length bs + 4)) (sym by_formula) (go (rises_in w (held_by j.device.part j.block xs)) (formula_by verify j.device w (held_by j.device.part j.block xs)) (added_most j.device bs ps j.device.erase 0))
    where
      go : (b : Bool) (n : ℕ) → added_in j.device bs ps 0 j.device.erase ≤ interruptions ps 0 j.device.erase * (j.device.suspend + length bs + 4) → n + (if b then added_in j.device bs ps 0 j.device.erase else 0) ≤ n + interruptions ps 0 j.device.erase * (j.device.suspend + length bs + 4)
      go true n h = omega arith
      go false n h = omega arith

  pub demand_3 : HeldDemand3 verify j xs w sc bs ps room
  demand_3 =
      let taken = own.own_smooth j.device w bs ps (held_bound (length w) (length bs)) (held_beginning (doing (Load verify) j) xs sc room) H.smooth in
      record {
        well = ap (λ (r : Ran). r.end) ran_is ∙ o.well;
        block = block_holds;
        others = λ x h. ap (λ (z : List ℕ). get_or z x 0) same_bytes ∙ o.others x h;
        array_left = same_bytes ∙ o.array_left;
        begins = H.begun ∙ o.begins;
        own_accepted = taken.0;
        own_brings = record { whole = taken.1; there = ap (λ (v : World). held_by j.device.part j.block v.bytes) leads ∙ block_holds };
        own_leads = leads;
        own_begins = own.own_begins j.device w bs ps (held_bound (length w) (length bs)) (held_beginning (doing (Load verify) j) xs sc room);
        least_wear = least_wear;
        counted = counts_end j.device w bs ps (held_beginning (doing (Load verify) j) xs sc room) ∙ none (length (held_cycles verify j xs w sc bs ps room));
        by_formula = by_formula;
        at_most = at_most;
        worn_block = λ c. ap (λ (v : Wear). count_of v j.block) wear_is ∙ o.worn_block c ∙ ap (λ (es : List Effect). min (count_of j.state.wear j.block + total_of (erase_of j.block) es) stop) (sym H.begun);
        worn_others = λ y h z. ap (λ (v : Wear). count_of v y) wear_is ∙ o.worn_others y h z;
        scratch_left = H.scratch ∙ sym W.scratch ∙ o.scratch_left;
        room_left = H.filled ∙ room_is j.device j.pins j.block w ys bs ps number xs room ∙ ap (λ (z : List ℕ). if rises_in w z && interrupts ps 0 j.device.erase then filled_by xs bs room else room) held_is;
      }
    where
      none : (n : ℕ) → 0 + n ≡ n
      none n = omega arith
