-- What is claimed of a load's run beyond its promise, in one place.
use mathlib.Core.Path.{◌≡◌}
use mathlib.Core.Bool.{Bool, true, false}
use mathlib.Core.List.{List}
use mathlib.Core.Logic.{◌↔◌}
use Prim.Native.Nat.{ℕ, ◌+◌, ◌*◌, ◌≤◌, ◌<◌}
use lib.ListN.{length, get_or, replicate}
use Rattle.model_types.specs.Cells.{ones, Cells}
use Rattle.common.specs.Numbers.{NoRow}
use Rattle.device.specs.declared.Device.{Device}
use Rattle.device.specs.Parts.{start_of}
use Rattle.model_types.specs.declared.Pins.{Pins}
use Rattle.model_types.specs.declared.Mode.TheVariants.{Array}
use Rattle.model_states.specs.States.{is_at_rest}
use Rattle.loader_walk.specs.Walks.{rises_in}
use Rattle.loader_run.specs.Turns.{Config, after}
use Rattle.loader_run.specs.Runs.{run_rows, run_number, run_left, doing}
use Rattle.loader_run_claims.specs.Wear.{begun_in, held_in, formula, operations_of, noted_all, begun_by_load, held_by}
use Rattle.model_history.specs.History.{Bus, world_after, begun_over, world_of, buses_of}
use Rattle.loader_run_claims.specs.Made.{made_in, cycles_of, cycles_of_load}
use Rattle.loader_run_claims.specs.Ends.{as_wanted, erased_from, ran_as, cycles_as, Whole}
use Rattle.loader_run_claims.specs.Mission.{Taken, Start, Brings, own_cycles, NoFewer, Demand3}
use Rattle.loader_run_claims.proofs.SameBlock as same
use Rattle.loader_run_claims.proofs.Starts as starts
use Rattle.loader_run_claims.proofs.OwnHistory as own
use Rattle.loader_run_claims.proofs.Total as total-ends
use Rattle.loader_run_claims.proofs.Counting as counting
use Rattle.loader_run_claims.specs.Stepping.{Stepped}
use Rattle.loader_run_claims.proofs.Stepping as stepping
use Rattle.loader_run_claims.proofs.Mission as mission
use Rattle.loader_run_claims.specs.Lent.{LentStart, LentDemand3}
use Rattle.loader_run_claims.specs.Anchors.{all_start}
use Rattle.loader.specs.declared.Work.TheVariants.{Load}
use Rattle.loader_run.specs.declared.Job.{Job}
use Rattle.loader_run_claims.proofs.Lent as lending
use Rattle.loader_run_claims.proofs.Anchors as anchors

-- Demand 3, every clause in the mission's order (specs/Mission), from its start: a proper state with nothing under way, VPP high, in
-- either band where there are two, RP# not low, the boot block unlocked if it is the one (RP# at unlock level; on devices 5 to 8 also WP#
-- high). All lists are of units, bytes or words.
pub demand_3 : (j : Job) (xs w sc : List ℕ) → Start j xs w sc → Demand3 true j xs w sc
demand_3 = mission.demand_3 true

-- The same of lent bytes, in byte mode and in word mode (specs/Lent): the run ends well, the block holds the wanted bytes, every other byte
-- is as before, scratch ends as wanted, the count is the formula's, n and the programs counted in units, and all of demand 3 holds of the
-- units that were lent.
pub lent_demand_3 : (j : Job) (array wanted scratch : List ℕ) → LentStart j array wanted scratch → LentDemand3 true j array wanted scratch
lent_demand_3 = lending.lent_demand_3 true

-- Such starts there are of every block of the eight devices, in byte mode and in word mode, in either band of VPP, with RP# at V_HH and
-- with WP# high: one computed test.
pub starts_exist : all_start ≡ true
starts_exist = anchors.all_start_lem

-- Counts pass 32 bits: a block of 65,536 units or more that holds ones, to be zeros, each programmed in 65,535 cycles.
pub passes_32_bits : (d : Device) (n : ℕ) → d.program ≡ 65535 → 65536 ≤ n → 4294967296 < formula d (replicate n 0) (replicate n (ones d.part))
passes_32_bits = anchors.passes_32_bits

-- A proper idle start (`Taken`) is just what no number of a run refuses, with busy times up to 65,535 and units of the part's width.
pub taken_exactly : (j : Job) (xs w sc : List ℕ) → j.device.program ≤ 65535 → j.device.erase ≤ 65535 → Cells j.device.part w → Cells j.device.part xs
    → Taken j xs w sc ↔ (run_number j (length xs) (length w) (length sc) ≡ 0)
taken_exactly = starts.taken_exactly

-- The clauses one by one. All that the run returns: the load ends well, and the count is 2n + 3 + e(2 + E) + p(2 + P).
pub ends_well_lem : (j : Job) (xs w sc : List ℕ) → Start j xs w sc
    → (run_left (doing (Load true) j) xs w sc).ran ≡ record { count = formula j.device w (held_in (start_of j.device.part j.block) (length w) xs); end = 0; address = 0; state = is_at_rest (erased_from (rises_in w (held_in (start_of j.device.part j.block) (length w) xs)) j.block j.state) Array 0x80 }
ends_well_lem = mission.ends_well_lem true

-- Wear: a load that has no bit to raise leaves every count of erases, with the verify after it or alone.
pub no_rise_no_wear : (verify : Bool) (j : Job) (xs w sc : List ℕ) → Start j xs w sc
    → rises_in w (held_in (start_of j.device.part j.block) (length w) xs) ≡ false → (run_left (doing (Load verify) j) xs w sc).ran.state.wear ≡ j.state.wear
no_rise_no_wear = mission.wear_kept

-- The block holds the wanted units, every other unit is as before, and scratch holds the wanted ones.
pub block_holds : (j : Job) (xs w sc : List ℕ) → Start j xs w sc
    → held_in (start_of j.device.part j.block) (length w) (run_left (doing (Load true) j) xs w sc).bytes ≡ w
block_holds = mission.block_holds true

pub others_stay : (j : Job) (xs w sc : List ℕ) → Start j xs w sc → (x : ℕ)
    → (x < start_of j.device.part j.block → get_or (run_left (doing (Load true) j) xs w sc).bytes x 0 ≡ get_or xs x 0)
    × (start_of j.device.part j.block + length w ≤ x → get_or (run_left (doing (Load true) j) xs w sc).bytes x 0 ≡ get_or xs x 0)
others_stay = mission.others_stay true

pub scratch_left : (j : Job) (xs w sc : List ℕ) → Start j xs w sc → (run_left (doing (Load true) j) xs w sc).scratch ≡ w
scratch_left = mission.scratch_wanted true

-- It erases once if some bit must rise, otherwise never; it programs each unit that then differs once, and no other: the list of
-- the operations begun, in their order.
pub begins_just : (j : Job) (xs w sc : List ℕ) → Start j xs w sc
    → begun_by_load j xs w sc ≡ operations_of j.device.part j.block (start_of j.device.part j.block) w (held_by j.device.part j.block xs)
begins_just j xs w sc start = (mission.demand_3 true j xs w sc start).begins

-- The cycles of a good load, one after the other: 50H, FFH, n reads; 20H, D0H, E polls if some bit must rise; 40H, the unit, P
-- polls for each unit that then differs; FFH, n reads. There are as many as the formula says.
pub cycles_are : (j : Job) (xs w sc : List ℕ) → Start j xs w sc
    → cycles_of_load j xs w sc ≡ cycles_of j.device j.pins (start_of j.device.part j.block) w (held_by j.device.part j.block xs)
cycles_are = mission.cycles_listed true

pub cycles_counted : (d : Device) (p : Pins) (a : ℕ) (w ys : List ℕ) → length (cycles_of d p a w ys) ≡ formula d w ys
cycles_counted = mission.cycles_long true

-- Least wear: cycles of any kind from the same start, refused ones among them, that cut no operation and leave the block as
-- wanted, begin at least as many erases of that block and at least as many programs in it as the load's own cycles.
pub nothing_less : (j : Job) (xs w sc : List ℕ) → Start j xs w sc → Cells j.device.part xs
    → (bs : List Bus) → Brings j.device (world_of j.state xs) j.block w bs → NoFewer j.device (world_of j.state xs) j.block (own_cycles true j xs w sc) bs
nothing_less j xs w sc start = (mission.demand_3 true j xs w sc start).least_wear

-- A load's cycles, put to a device alone, lead it to where the load is and begin what the load begins. From any input whatever.
pub own_leads : (d : Device) (w : List ℕ) (j : ℕ) (c : Config)
    → world_after d (world_of c.state c.bytes) (buses_of (made_in j d w c)) ≡ world_of (after j d w c).state (after j d w c).bytes
own_leads = own.own_leads

pub own_begins : (d : Device) (w : List ℕ) (j : ℕ) (c : Config) → noted_all (begun_over d (world_of c.state c.bytes) (buses_of (made_in j d w c))) ≡ begun_in j d w c
own_begins = own.own_begins

-- Every end. A run that nothing refuses, whatever VPP and RP# (`Taken`), returns and leaves what specs/Ends says, and makes the
-- cycles listed there: with nothing to erase or program it ends well in 2n + 3 cycles; otherwise with VPP low it ends 21, and with
-- the boot block shut 23 if some bit must rise, else 24, at cycle n + 5 with the array as before and scratch as the block held;
-- otherwise well. The model refuses none of its cycles, and none cuts an operation.
pub every_end : (j : Job) (xs w sc : List ℕ) → Taken j xs w sc → Whole true j xs w sc
every_end = total-ends.every_end true

-- Stepping by hand is the run (`Stepped` of specs/Stepping, a sentence a field). From a start that nothing refuses, a host that gives
-- the device the cycle that is out, and hands the byte read to the step (after a write any byte), gets the run's next record and cycle
-- at every turn; at the last the run's end and address, with the run's state, array, scratch and count.
pub stepped_by_hand : (j : Job) (xs w sc : List ℕ) → Taken j xs w sc → Stepped (doing (Load true) j) xs w sc
stepped_by_hand j xs w sc t = stepping.stepped true j xs w sc (every_end j xs w sc t)

-- The count is the number of cycles made: any number of turns from anywhere adds to it the length of the list of their cycles.
pub counts_made : (k : ℕ) (d : Device) (w : List ℕ) (c : Config) → (after k d w c).count ≡ c.count + length (made_in k d w c)
counts_made = counting.counts_made

-- So a run that nothing refuses returns the number of its cycles, whatever its end; P, E and the wanted bytes are free here.
pub run_counts : (j : Job) (xs w sc : List ℕ) → NoRow (run_rows j (length xs) (length w) (length sc))
    → (run_left (doing (Load true) j) xs w sc).ran.count ≡ length (cycles_of_load j xs w sc)
run_counts j = counting.run_counts (doing (Load true) j)

-- The cycles that specs/Ends lists are as many as the count that it lists: the formula for a good end, n + 5 for 21, 23 and 24.
pub ends_counted : (j : Job) (a : ℕ) (w ys : List ℕ) → length (cycles_as true j.device j.pins j.block a w ys) ≡ (ran_as true j w ys).count
ends_counted = counting.ends_counted true

-- With nothing to erase or program the count is 2n + 3.
pub nothing_to_do : (d : Device) (w ys : List ℕ) → length ys ≡ length w → as_wanted w ys ≡ true → formula d w ys ≡ 2 * length w + 3
nothing_to_do = same.same_formula

-- 20, 22 and 25 never come from the model.
pub never : (j : Job) (xs w sc : List ℕ) → Taken j xs w sc
    → ((run_left (doing (Load true) j) xs w sc).ran.end ≡ 20 → ⊥) × ((run_left (doing (Load true) j) xs w sc).ran.end ≡ 22 → ⊥) × ((run_left (doing (Load true) j) xs w sc).ran.end ≡ 25 → ⊥)
never = total-ends.never true
