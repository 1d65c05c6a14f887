-- What is claimed of a verify alone, of a load alone, and of a run as the two of them, in one place.
use mathlib.Core.Path.{◌≡◌, ap}
use mathlib.Core.Bool.{true, false}
use mathlib.Core.List.{List, [], ◌++◌}
use mathlib.Core.Logic.{◌↔◌}
use Prim.Native.Nat.{ℕ, ◌+◌, ◌≤◌}
use lib.ListN.{length}
use Rattle.common.specs.Numbers.{NoRow}
use Rattle.device.specs.declared.Device.{Device}
use Rattle.device.specs.Parts.{start_of}
use Rattle.model_types.specs.declared.Pins.{Pins}
use Rattle.model_types.specs.declared.Cycle.{Cycle}
use Rattle.model_types.specs.Cells.{Cells}
use Rattle.loader_walk.specs.Walks.{diff_from}
use Rattle.loader_run.specs.declared.Ran.{Ran}
use Rattle.loader_run.specs.Runs.{run_rows, run_left, lent_rows, lent_run, doing}
use Rattle.loader_run_claims.specs.Wear.{held_in, held_by, formula, load_formula}
use Rattle.loader_run_claims.specs.Made.{cycles_at, cycles_of_load, load_then}
use Rattle.loader_run_claims.specs.Ends.{Whole}
use Rattle.loader_run_claims.specs.Mission.{Taken, Start, Demand3}
use Rattle.loader_run_claims.specs.Stepping.{Stepped}
use Rattle.loader_run_claims.proofs.Mission as mission
use Rattle.loader_run_claims.proofs.Total as total-ends
use Rattle.loader_run_claims.proofs.Counting as counting
use Rattle.loader_run_claims.proofs.Stepping as stepping
use Rattle.loader_verify_claims.specs.Verified.{Verified, Met}
use Rattle.loader_verify_claims.specs.LoadThenVerify.{load_verify_left, load_verify_cycles}
use Rattle.loader_verify_claims.proofs.Verifying as verifying
use Rattle.loader_verify_claims.proofs.LoadThenVerify as both
use Rattle.loader_verify_claims.proofs.Lent as lending
use Rattle.loader_verify_claims.specs.Lent.{LentMet}
use Rattle.common.specs.Lists.{Bytes}
use Rattle.units.specs.Address.{byte_of}
use Rattle.loader.specs.declared.Work.TheVariants.{Load, Verify}
use Rattle.loader_run.specs.declared.Job.{Job}

-- A verify that nothing refuses, whatever VPP and the lock, from any proper state with nothing under way (`Verified`, a sentence a
-- field): what it returns, that the array is as before and no operation begun, what scratch holds, its cycles, and the status as before.
pub verified : (j : Job) (xs w sc : List ℕ) → Cells j.device.part xs → NoRow (run_rows j (length xs) (length w) (length sc)) → Verified j xs w sc
verified = verifying.verified

-- It leaves every count of erases as it was.
pub verify_keeps_wear : (j : Job) (xs w sc : List ℕ) → Cells j.device.part xs → NoRow (run_rows j (length xs) (length w) (length sc))
    → (run_left (doing Verify j) xs w sc).ran.state.wear ≡ j.state.wear
verify_keeps_wear j xs w sc h n = ap (λ (r : Ran). r.state.wear) (verified j xs w sc h n).ran

-- It ends well exactly where the block holds the wanted units; else it ends 25 at the first place that differs, with the byte address of
-- the first byte that differs and place + 2 cycles (`Met`).
pub well_exactly : (j : Job) (xs w sc : List ℕ) → Cells j.device.part xs → NoRow (run_rows j (length xs) (length w) (length sc))
    → ((run_left (doing Verify j) xs w sc).ran.end ≡ 0) ↔ (held_by j.device.part j.block xs ≡ w)
well_exactly = verifying.well_exactly

pub first_difference : (j : Job) (xs w sc : List ℕ) → Cells j.device.part xs → NoRow (run_rows j (length xs) (length w) (length sc))
    → (held_by j.device.part j.block xs ≡ w → ⊥) → Met j xs w sc (diff_from 0 w (held_in (start_of j.device.part j.block) (length w) xs))
first_difference = verifying.first_difference

-- Demand 3 of a load alone, every clause; the count is n + 2 + e(2 + E) + p(2 + P), and scratch ends as wanted.
pub load_demand_3 : (j : Job) (xs w sc : List ℕ) → Start j xs w sc → Demand3 false j xs w sc
load_demand_3 = mission.demand_3 false

-- Its cycles are the run's without FFH and the reads at their end; it costs n + 1 less.
pub load_cycles : (j : Job) (xs w sc : List ℕ) → Start j xs w sc
    → cycles_at (doing (Load false) j) xs w sc ≡ load_then j.device j.pins (start_of j.device.part j.block) w (held_by j.device.part j.block xs) []
load_cycles = mission.cycles_listed false

pub cycles_split : (d : Device) (p : Pins) (a : ℕ) (w ys : List ℕ) (cs : List Cycle) → load_then d p a w ys cs ≡ load_then d p a w ys [] ++ cs
cycles_split = both.load_then_lem

pub count_split : (d : Device) (w ys : List ℕ) → formula d w ys ≡ load_formula d w ys + (length w + 1)
count_split = mission.formula_load_verify

-- Every end of a load alone, whatever VPP and RP#: as a run's, without the verify.
pub load_every_end : (j : Job) (xs w sc : List ℕ) → Taken j xs w sc → Whole false j xs w sc
load_every_end = total-ends.every_end false

-- A run is the two of them: what it returns and leaves is what the load leaves and, only where that ended well, what the verify from
-- there returns and leaves, with the counts added; refused or not, for devices and bytes of the widths that the code has.
pub run_is_load_then_verify : (j : Job) (xs w sc : List ℕ) → j.device.program ≤ 65535 → j.device.erase ≤ 65535 → Cells j.device.part w → Cells j.device.part xs
    → run_left (doing (Load true) j) xs w sc ≡ load_verify_left j xs w sc
run_is_load_then_verify = both.run_load_verify

-- So are its cycles: where the load did not end well, the verify is not begun.
pub cycles_are_load_then_verify : (j : Job) (xs w sc : List ℕ) → Taken j xs w sc → cycles_of_load j xs w sc ≡ load_verify_cycles j xs w sc
cycles_are_load_then_verify j xs w sc t = (both.taken_load_verify j xs w sc t).1

-- 25 comes from a verify only, 20 to 24 from a load only: a load alone never ends 25, and a verify ends well or 25.
pub load_never_25 : (j : Job) (xs w sc : List ℕ) → Taken j xs w sc → (run_left (doing (Load false) j) xs w sc).ran.end ≡ 25 → ⊥
load_never_25 j xs w sc t = (total-ends.never false j xs w sc t).2

pub verify_only_25 : (j : Job) (xs w sc : List ℕ) → Cells j.device.part xs → NoRow (run_rows j (length xs) (length w) (length sc))
    → ((run_left (doing Verify j) xs w sc).ran.end ≡ 25 → ⊥) → (run_left (doing Verify j) xs w sc).ran.end ≡ 0
verify_only_25 = verifying.only_25

-- Stepping by hand is the load alone, and the verify alone, as it is the run.
pub load_by_hand : (j : Job) (xs w sc : List ℕ) → Taken j xs w sc → Stepped (doing (Load false) j) xs w sc
load_by_hand j xs w sc t = stepping.stepped false j xs w sc (load_every_end j xs w sc t)

pub verify_by_hand : (j : Job) (xs w sc : List ℕ) → Cells j.device.part xs → NoRow (run_rows j (length xs) (length w) (length sc)) → Stepped (doing Verify j) xs w sc
verify_by_hand j xs w sc c f = stepping.by_hand (doing Verify j) xs w sc f (verified j xs w sc c f).smooth

-- The count is the number of cycles made, of either.
pub load_counts : (j : Job) (xs w sc : List ℕ) → NoRow (run_rows j (length xs) (length w) (length sc))
    → (run_left (doing (Load false) j) xs w sc).ran.count ≡ length (cycles_at (doing (Load false) j) xs w sc)
load_counts j = counting.run_counts (doing (Load false) j)

pub verify_counts : (j : Job) (xs w sc : List ℕ) → NoRow (run_rows j (length xs) (length w) (length sc))
    → (run_left (doing Verify j) xs w sc).ran.count ≡ length (cycles_at (doing Verify j) xs w sc)
verify_counts j = counting.run_counts (doing Verify j)

-- A verify on lent bytes, in byte mode and in word mode, ends well exactly where the block holds the wanted bytes.
pub lent_well_exactly : (j : Job) (array wanted scratch : List ℕ) → Bytes array → Bytes wanted → NoRow (lent_rows j (length array) (length wanted) (length scratch))
    → ((lent_run (doing Verify j) array wanted scratch).ran.end ≡ 0) ↔ (held_in (byte_of j.device.part.word (start_of j.device.part j.block)) (length wanted) array ≡ wanted)
lent_well_exactly = lending.lent_well_exactly

-- Else it ends 25 with the byte address of the first byte of the block that differs from what is wanted (`LentMet`).
pub lent_first_difference : (j : Job) (array wanted scratch : List ℕ) (bx : Bytes array) (bw : Bytes wanted)
    (free : NoRow (lent_rows j (length array) (length wanted) (length scratch))) → (held_in (byte_of j.device.part.word (start_of j.device.part j.block)) (length wanted) array ≡ wanted → ⊥)
    → LentMet j array wanted scratch (lending.place j array wanted scratch bx bw free)
lent_first_difference = lending.lent_first_difference
