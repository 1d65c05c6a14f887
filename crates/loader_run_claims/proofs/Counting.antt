-- The count is the number of cycles made: the length of their list.
use mathlib.Core.Path.{◌≡◌, refl, ap}
use mathlib.Core.Bool.{Bool, true, false}
use mathlib.Core.List.{List, ◌∷◌}
use Prim.Native.Nat.{ℕ, zero, suc, ◌+◌}
use native.Mathlib.Omega.{arith}
use lib.ListN.{length, get_or}
use lib.Dec.{eqb}
use Rattle.std.specs.Prelude.{if◌then◌else◌}
use Rattle.common.specs.Numbers.{NoRow}
use Rattle.common.proofs.Numbers.{no_row_given}
use Rattle.device.specs.declared.Device.{Device}
use Rattle.model_types.specs.declared.Pins.{Pins}
use Rattle.loader_walk.specs.Walks.{rises_in, diff_from}
use Rattle.loader_steps.specs.Outs.{cycle_of}
use Rattle.loader_run.specs.Turns.{Config, turn_of, after}
use Rattle.loader_run.specs.Inner.{bound}
use Rattle.loader.specs.Stages.{is_ended}
use Rattle.loader_run.specs.Runs.{run_rows, begin, driven, RunLeft, run_first, run_end, run_left}
use Rattle.loader_run.proofs.Leaving.{left_made}
use Rattle.loader_run.proofs.Turning.{turn_ended, turn_going}
use Rattle.loader_run_claims.specs.Made.{made_in, cycles_at, opening_then, cycles_by}
use Rattle.loader_run_claims.specs.Ends.{end_number, erase_tried, program_tried, fault_cycles, well_ran, fault_ran, ran_as, cycles_as}
use Rattle.loader_run_claims.proofs.Mission.{reads_long, cycles_long}
use Rattle.loader_steps.specs.Front.{record_of}
use Rattle.loader_run.specs.declared.Job.{Job}

-- any number of turns from anywhere: the count has grown by the number of cycles made
pub counts_made : (k : ℕ) (d : Device) (w : List ℕ) (c : Config) → (after k d w c).count ≡ c.count + length (made_in k d w c)
counts_made zero d w c = omega arith
counts_made (suc k) d w c = go (is_ended c.loader.stage) refl (counts_made k d w (turn_of d w c))
  where
    go : (t : Bool) → is_ended c.loader.stage ≡ t → (after k d w (turn_of d w c)).count ≡ (turn_of d w c).count + length (made_in k d w (turn_of d w c))
        → (after k d w (turn_of d w c)).count ≡ c.count + length (if is_ended c.loader.stage then made_in k d w (turn_of d w c) else cycle_of c.loader w ∷ made_in k d w (turn_of d w c))
    go true e h = rw e (let q : (turn_of d w c).count ≡ c.count = ap (λ (x : Config). x.count) (turn_ended d w c e) in omega arith)
    go false e h = rw e (let q : (turn_of d w c).count ≡ c.count + 1 = ap (λ (x : Config). x.count) (turn_going d w c e) in omega arith)

-- so the count that a run returns is the number of its cycles
pub run_counts : (j : Job) (xs w sc : List ℕ) → NoRow (run_rows j (length xs) (length w) (length sc))
    → (run_left j xs w sc).ran.count ≡ length (cycles_at j xs w sc)
unfolding run_first run_end driven
run_counts j xs w sc f =
    let c : Config = begin j.device j.state (record_of j.work j.device.part j.pins j.block) xs sc in
    let e : (run_left j xs w sc).ran.count ≡ (after (bound (length w)) j.device w c).count = ap (λ (r : RunLeft). r.ran.count) (left_made j xs w sc (no_row_given f)) in
    let q = counts_made (bound (length w)) j.device w c in
    omega arith

-- the cycles up to a fault are n + 5
fault_long : (p : Pins) (a : ℕ) (w ys : List ℕ) → length (fault_cycles p a w ys) ≡ length w + 5
fault_long p a w ys = go (a + diff_from 0 w ys) (get_or w (diff_from 0 w ys) 0) (rises_in w ys)
  where
    go : (x b : ℕ) (t : Bool) → length (opening_then p a (length w) (if t then erase_tried p a else program_tried p x b)) ≡ length w + 5
    go x b true = let r = reads_long p (length w) a 0 (erase_tried p a) in omega arith
    go x b false = let r = reads_long p (length w) a 0 (program_tried p x b) in omega arith

-- the listed cycles are as many as the listed count, whatever the end
pub ends_counted : (verify : Bool) (j : Job) (a : ℕ) (w ys : List ℕ) → length (cycles_as verify j.device j.pins j.block a w ys) ≡ (ran_as verify j w ys).count
unfolding cycles_as ran_as
ends_counted verify j a w ys = go (eqb (end_number j.device j.pins j.block w ys) 0)
  where
    go : (t : Bool) → length (if t then cycles_by verify j.device j.pins a w ys else fault_cycles j.pins a w ys) ≡ (if t then well_ran verify j.device j.state j.block w ys else fault_ran j.device j.state j.pins w ys (end_number j.device j.pins j.block w ys)).count
    go true = cycles_long verify j.device j.pins a w ys
    go false = fault_long j.pins a w ys
