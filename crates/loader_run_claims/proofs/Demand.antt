-- From a run that nothing refuses to its end: what the phases reach is what the run returns and leaves.
use mathlib.Core.Path.{◌≡◌, refl, sym, ap, ◌∙◌, subst}
use mathlib.Core.Bool.{Bool, true, false}
use mathlib.Core.List.{List, []}
use Prim.Native.Nat.{ℕ, ◌+◌, ◌-◌, ◌*◌, ◌<◌}
use native.Mathlib.Nat.{zero-mul, one-mul}
use native.Mathlib.Omega.{arith}
use lib.ListN.{length, get_or}
use lib.Dec.{eqb}
use Rattle.std.specs.Prelude.{if◌then◌else◌}
use Rattle.common.proofs.Choice.{if_true, if_false}
use Rattle.common.specs.Lists.{overlaid}
use Rattle.device.specs.Parts.{start_of}
use Rattle.model_types.specs.declared.Mode.TheVariants.{Array, Status}
use Rattle.model_types.specs.declared.State.{State}
use Rattle.model_types.specs.declared.Effect.{Effect}
use Rattle.model_levels.specs.Levels.{vpp_low, unlocked}
use Rattle.model_states.specs.States.{is_at_rest}
use Rattle.model.proofs.Status.{fits}
use Rattle.model.proofs.Keeping.{times}
use Rattle.loader.specs.declared.Stage.TheVariants.{Ended}
use Rattle.loader.specs.declared.Loader.{Loader}
use Rattle.loader_walk.specs.Walks.{rises_in, diff_from}
use Rattle.loader.specs.Statuses.{is_ready, erase_end, program_end}
use Rattle.loader.specs.declared.Stage.{Stage}
use Rattle.model_types.specs.declared.Cycle.{Cycle}
use lib.Bits.{bit_or}
use Rattle.loader_run.specs.Turns.{Config}
use Rattle.loader_run.specs.Runs.{run_number, ran_by, beginning, run_left, doing}
use Rattle.loader_run_claims.specs.Wear.{held_in, base_of, programs_in, formula_by, operations_of}
use Rattle.loader_run_claims.specs.Made.{opening_then, closing_by, cycles_by}
use Rattle.loader_run_claims.specs.Ends.{as_wanted, loaded_mode, end_mode, erased_from, erase_tried, program_tried, fault_cycles}
use Rattle.loader_run.proofs.Turning.{conf}
use Rattle.loader_run.proofs.UnrefusedRun.{Good}
use Rattle.loader_run_claims.specs.Mission.{Taken}
use Rattle.loader_run_claims.proofs.Starts.{none_refuses}
use Rattle.loader_run_claims.proofs.Answers.{Up, Ready, Stuck}
use Rattle.loader_run_claims.proofs.Reaching.{Reach}
use Rattle.model_types.specs.Cells.{Cells}
use Rattle.loader_run_claims.proofs.LoadLists.{over_self, cells_held}
use Rattle.loader_run_claims.proofs.Grounds as grounds
use Rattle.loader_run_claims.proofs.Grounds.{Left}
use Rattle.loader_run_claims.proofs.Phases as phases
use Rattle.loader_run_claims.proofs.Faults as faults
use Rattle.loader_run_claims.proofs.SameBlock.{same_list, none_risen, none_differing, none_programmed}
use Rattle.loader.specs.declared.Work.TheVariants.{Load}
use Rattle.loader_run.specs.declared.Job.{Job}

-- the count of a load, and of what follows it
summed : (v rise : Bool) (n E P cnt : ℕ) → cnt ≡ 2 + n + ((if rise then 2 + E else 0) + P)
    → cnt + (if v then 1 + n else 0) ≡ (if v then 2 * n + 3 + (if rise then 1 else 0) * (2 + E) + P else n + 2 + (if rise then 1 else 0) * (2 + E) + P)
summed true true n E P cnt q = rw (one-mul (2 + E)) (omega arith)
summed true false n E P cnt q = rw (zero-mul (2 + E)) (omega arith)
summed false true n E P cnt q = rw (one-mul (2 + E)) (omega arith)
summed false false n E P cnt q = rw (zero-mul (2 + E)) (omega arith)

module _ (verify : Bool) (j : Job) (xs w sc : List ℕ) (t : Taken j xs w sc) where
  n0 : run_number j (length xs) (length w) (length sc) ≡ 0
  n0 = none_refuses j xs w sc t

  g : Good j (length xs) (length w) (length sc)
  g = grounds.g j xs w sc n0

  u : Up j.device j.pins
  u = grounds.u j xs w sc n0

  some : 0 < length w
  some = grounds.some j xs w sc n0

  ly : length (held_in (start_of j.device.part j.block) (length w) xs) ≡ length w
  ly = grounds.ly j xs w sc n0

  abbrev pub a : ℕ
  a = start_of j.device.part j.block

  abbrev pub ys : List ℕ
  ys = held_in (start_of j.device.part j.block) (length w) xs

  cy : Cells j.device.part ys
  cy = cells_held j.device.part a (length w) xs t.held

  abbrev rec : Stage → ℕ → Loader
  rec stage place = record { part = j.device.part; pins = j.pins; block = j.block; stage = stage; place = place; polls = 0; verify = verify; high = false }

  abbrev started : Config
  started = beginning (doing (Load verify) j) xs sc

  -- the state with the counts that the load leaves
  abbrev pub after : State
  after = erased_from (rises_in w ys) j.block j.state

  -- where a good load comes to, and one that a fault ends
  abbrev pub goal : Config
  goal = conf (rec (Ended 0) (if verify then length w - 1 else 0)) (is_at_rest after (end_mode verify w ys) 128) (overlaid xs a w) w (formula_by verify j.device w ys)

  abbrev pub broken : ℕ → ℕ → ℕ → Config
  broken n x i = conf (rec (Ended n) i) (is_at_rest j.state Status x) xs ys (length w + 5)

  -- 50H, FFH and the first reads come first, whatever follows
  opened : (e : Config) (es : List Effect) (cs : List Cycle) → Reach j.device w (faults.judged verify j.device j.pins j.block u j.state w g.wanted some xs g.sized ys ly (2 + length w)) e es cs
      → Reach j.device w started e es (opening_then j.pins a (length w) cs)
  opened e es cs r =
      grounds.from_rest j xs w sc n0 (Load verify) e es (opening_then j.pins a (length w) cs)
      (phases.opening verify j.device j.pins j.block u j.state w g.wanted some xs g.sized ys sc ly cy (g.scratch ∙ sym g.wanted) j.state.mode j.state.status (grounds.ready_status j.device j.state g.proper g.free) e es cs r)

  -- what follows the last program, up to the end
  finished : (cnt : ℕ) → cnt ≡ 2 + length w + ((if rises_in w ys then 2 + j.device.erase else 0) + programs_in j.device.part w ys * (2 + j.device.program))
      → Reach j.device w (phases.loaded verify j.device j.pins j.block u after w g.wanted some xs g.sized (loaded_mode w ys) cnt) goal [] (closing_by verify j.pins a (length w))
  finished cnt q =
      subst (λ (c : ℕ). Reach j.device w (phases.loaded verify j.device j.pins j.block u after w g.wanted some xs g.sized (loaded_mode w ys) cnt)
      (conf (rec (Ended 0) (if verify then length w - 1 else 0)) (is_at_rest after (end_mode verify w ys) 128) (overlaid xs a w) w c) [] (closing_by verify j.pins a (length w)))
      (summed verify (rises_in w ys) (length w) j.device.erase (programs_in j.device.part w ys * (2 + j.device.program)) cnt q)
      (faults.finishing verify j.device j.pins j.block u after w g.wanted some t.bytes xs g.sized (loaded_mode w ys) cnt)

  -- the load where its operations can start
  module _ (high : vpp_low j.device.part j.pins ≡ false) (unlock : j.block ≡ 0 → unlocked j.device.part j.pins 0 ≡ true) where
    ready : Ready j.device j.pins j.block
    ready = record { base = u; high = high; unlock = unlock }

    pub good_load : Left (doing (Load verify) j) xs w sc goal (operations_of j.device.part j.block a w ys) (cycles_by verify j.device j.pins a w ys)
    good_load =
        grounds.comes j xs w sc n0 (Load verify) goal (operations_of j.device.part j.block a w ys) (cycles_by verify j.device j.pins a w ys) refl
        (grounds.from_rest j xs w sc n0 (Load verify) goal (operations_of j.device.part j.block a w ys) (cycles_by verify j.device j.pins a w ys)
        (phases.loading verify j.device j.pins j.block u j.state w g.wanted some xs g.sized ys sc ly cy (g.scratch ∙ sym g.wanted) ready j.state.mode j.state.status (grounds.ready_status j.device j.state g.proper g.free) t.bytes
        (grounds.over j.device.program (times j.device g.known).0) t.programs (grounds.over j.device.erase (times j.device g.known).1) t.erases goal (closing_by verify j.pins a (length w))
        (λ cnt q. finished cnt (q ∙ ap (λ (n : ℕ). 2 + length w + ((if rises_in w ys then 2 + j.device.erase else 0) + n)) (phases.costs_are verify j.device j.pins j.block u j.state w g.wanted some xs g.sized (length w) 0 (base_of j.device.part w ys))))))

  -- the load of a block that holds what is wanted
  pub same_load : as_wanted w ys ≡ true → Left (doing (Load verify) j) xs w sc goal [] (cycles_by verify j.device j.pins a w ys)
  same_load e =
      grounds.comes j xs w sc n0 (Load verify) goal [] (cycles_by verify j.device j.pins a w ys) refl
      (subst (λ (cs : List Cycle). Reach j.device w started goal [] cs) (sym listed)
      (opened goal [] (closing_by verify j.pins a (length w)) (faults.nothing_done verify j.device j.pins j.block u j.state w g.wanted some xs g.sized ys ly (2 + length w) goal (closing_by verify j.pins a (length w)) e
      (subst (λ (c : Config). Reach j.device w c goal [] (closing_by verify j.pins a (length w)))
      (λ i. phases.loaded verify j.device j.pins j.block u (erased_from (rises_not i) j.block j.state) w g.wanted some xs g.sized (if_true (as_wanted w ys) Array Status e i) (2 + length w))
      (finished (2 + length w) (rw (rises_not, held, none_differing (length w) 0 w) (omega arith)))))))
    where
      held : ys ≡ w
      held = same_list w ys ly e

      rises_not : rises_in w ys ≡ false
      rises_not = ap (λ (z : List ℕ). rises_in w z) held ∙ none_risen w

      listed : cycles_by verify j.device j.pins a w ys ≡ opening_then j.pins a (length w) (closing_by verify j.pins a (length w))
      listed = rw (rises_not, held) (ap (λ (cs : List Cycle). opening_then j.pins a (length w) cs) (none_programmed j.device j.pins (length w) a 0 w (closing_by verify j.pins a (length w))))

  -- the load whose first operation cannot start: the array is as before
  stopped : (n x i : ℕ) (cs : List Cycle)
      → Reach j.device w (faults.judged verify j.device j.pins j.block u j.state w g.wanted some xs g.sized ys ly (2 + length w)) (conf (rec (Ended n) i) (is_at_rest j.state Status x) (overlaid xs a ys) ys (2 + length w + 3)) [] cs
      → (all : List Cycle) → all ≡ opening_then j.pins a (length w) cs → Left (doing (Load verify) j) xs w sc (broken n x i) [] all
  stopped n x i cs r all q =
      grounds.comes j xs w sc n0 (Load verify) (broken n x i) [] all refl
      (subst (λ (z : List Cycle). Reach j.device w started (broken n x i) [] z) (sym q)
      (subst (λ (c : Config). Reach j.device w started c [] (opening_then j.pins a (length w) cs)) back (opened _ [] cs r)))
    where
      back : conf (rec (Ended n) i) (is_at_rest j.state Status x) (overlaid xs a ys) ys (2 + length w + 3) ≡ broken n x i
      back = λ m. conf (rec (Ended n) i) (is_at_rest j.state Status x) (over_self xs a (length w) (grounds.fitting j xs w sc n0) m) ys ((let z : 2 + length w + 3 ≡ length w + 5 = omega arith in z) m)

  -- .. an erase
  pub erase_load : (low x n : ℕ) → Stuck j.device j.pins j.block low → bit_or (bit_or 128 low) 32 ≡ x → fits 2 x ≡ true → is_ready x ≡ true → erase_end x ≡ n → eqb n 0 ≡ false → rises_in w ys ≡ true
      → Left (doing (Load verify) j) xs w sc (broken n x 0) [] (fault_cycles j.pins a w ys)
  erase_load low x n stuck q f ready e z y =
      stopped n x 0 (erase_tried j.pins a) (faults.erase_fails verify j.device j.pins j.block u j.state w g.wanted some xs g.sized ys ly low x n (2 + length w) stuck q f ready e z y)
      (fault_cycles j.pins a w ys) (ap (λ (cs : List Cycle). opening_then j.pins a (length w) cs) (if_true (rises_in w ys) _ _ y))

  -- .. a program
  pub program_load : (low x n : ℕ) → Stuck j.device j.pins j.block low → bit_or (bit_or 128 low) 16 ≡ x → fits 2 x ≡ true → is_ready x ≡ true → program_end x ≡ n → eqb n 0 ≡ false → rises_in w ys ≡ false
      → as_wanted w ys ≡ false → Left (doing (Load verify) j) xs w sc (broken n x (diff_from 0 w ys)) [] (fault_cycles j.pins a w ys)
  program_load low x n stuck q f ready e z y o =
      stopped n x (diff_from 0 w ys) (program_tried j.pins (a + diff_from 0 w ys) (get_or w (diff_from 0 w ys) 0))
      (faults.program_fails verify j.device j.pins j.block u j.state w g.wanted some xs g.sized ys ly low x n (2 + length w) stuck q f ready e z y o)
      (fault_cycles j.pins a w ys) (ap (λ (cs : List Cycle). opening_then j.pins a (length w) cs) (if_false (rises_in w ys) _ _ y))

  -- what a run returns and leaves, where it is known how it is left
  module _ (e : Config) (es : List Effect) (cs : List Cycle) (left : Left (doing (Load verify) j) xs w sc e es cs) where
    pub ran_left : (run_left (doing (Load verify) j) xs w sc).ran ≡ ran_by e
    ran_left = grounds.ran_left j xs w sc n0 (Load verify) e es cs left

    pub bytes_left : (run_left (doing (Load verify) j) xs w sc).bytes ≡ e.bytes
    bytes_left = grounds.bytes_left j xs w sc n0 (Load verify) e es cs left

    pub scratch_left : (run_left (doing (Load verify) j) xs w sc).scratch ≡ e.scratch
    scratch_left = grounds.scratch_left j xs w sc n0 (Load verify) e es cs left
