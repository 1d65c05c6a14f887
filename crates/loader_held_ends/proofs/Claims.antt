-- What is claimed of a load whose erase is interrupted for readings (02 xi), in one place. `verify` is whether the verify follows the
-- load; ps are the polls told, bs the addresses. That no list of polls makes a load that does not end is `always_ends` of
-- loader_held_run/proofs/Claims.
use mathlib.Core.Path.{◌≡◌}
use mathlib.Core.Bool.{Bool, true, false, ◌||◌}
use mathlib.Core.List.{List, [], ◌∷◌, ◌++◌}
use Prim.Native.Nat.{ℕ, suc, ◌+◌, ◌-◌, ◌*◌, ◌≤◌, ◌<◌, max}
use lib.ListN.{length, get_or}
use Rattle.device.specs.declared.Device.{Device}
use Rattle.device.specs.Parts.{start_of}
use Rattle.units.specs.Units.{units}
use Rattle.model_types.specs.Cells.{Cells}
use Rattle.model_types.specs.declared.Pins.{Pins}
use Rattle.model_history.specs.History.{Bus, world_of, buses_of, world_after}
use Rattle.loader_run.specs.Turns.{Config}
use Rattle.loader_run_claims.specs.Wear.{begun_at, held_in}
use Rattle.loader_run_claims.specs.Mission.{Taken, Brings, NoFewer}
use Rattle.loader_held_lists.specs.Listings.{held_number}
use Rattle.loader_held.specs.Holds.{listed}
use Rattle.loader_held_run.specs.HeldTurns.{HeldConfig, held_after}
use Rattle.loader_held_run.specs.HeldRuns.{held_ran, lent_held}
use Rattle.loader_held_claims.specs.HeldMade.{Elsewhere, held_made, filled_by, polls_cost, interruptions, added_at, added_in}
use Rattle.loader_held_claims.specs.HeldEnds.{added_by, held_ran_as, room_as, held_cycles_as}
use Rattle.loader_held_claims.proofs.Rooms as rooms
use Rattle.loader_held_claims.proofs.Lifting.{AsBefore}
use Rattle.loader_held_claims.proofs.Lifting as lifting
use Rattle.loader_held_claims.proofs.Starting as starting
use Rattle.loader_held_ends.specs.HeldMission.{held_end, held_begins, own_held, HeldWhole, HeldStart, HeldDemand3}
use Rattle.loader_held_ends.specs.HeldLent.{LentTaken, LentHeldStart, LentBeside, LentHeldDemand3}
use Rattle.loader_held_ends.specs.HeldStepping.{HeldStepped}
use Rattle.loader_held_ends.specs.HeldAnchors.{all_lists, figures}
use Rattle.loader.specs.declared.Work.TheVariants.{Load}
use Rattle.loader_run.specs.declared.Job.{Job}
use Rattle.loader_run.specs.Runs.{run_left, lent_run, doing}
use Rattle.loader_held_ends.proofs.HeldGrounds as grounds
use Rattle.loader_held_ends.proofs.HeldLists as lists
use Rattle.loader_held_ends.proofs.HeldMission as mission
use Rattle.loader_held_ends.proofs.HeldLent as lending
use Rattle.loader_held_ends.proofs.HeldHistory as own
use Rattle.loader_held_ends.proofs.HeldStepping as stepping
use Rattle.loader_held_ends.proofs.Addresses as addresses
use Rattle.loader_held_ends.proofs.Readings as readings

-- Demand 3 for any number of interruptions, clause by clause (specs/HeldMission), from the mission's start with addresses of other blocks
-- and room for a unit of each: it ends well, the block holds what is wanted, all else is as before, one erase is begun if some bit must
-- rise and none otherwise, each unit that then differs is programmed once and no other, nothing wears less, the count is the number of
-- cycles made: the formula's and what the interruptions add; and the room.
pub demand_3 : (verify : Bool) (j : Job) (xs w sc bs ps room : List ℕ) → HeldStart verify j xs w sc bs ps room
    → HeldDemand3 verify j xs w sc bs ps room
demand_3 = mission.demand_3

-- The same of lent bytes, in byte mode and in word mode: what `run_held` promises (`lent_held`) meets it.
pub lent_demand_3 : (verify : Bool) (j : Job) (array wanted scratch ps bs room : List ℕ) → LentHeldStart j array wanted scratch bs room
    → LentHeldDemand3 verify j array wanted scratch ps bs room
lent_demand_3 = lending.lent_held_demand_3

-- Such lists there are: for every block of the eight devices, in byte mode and in word mode, an address that no test refuses (computed).
pub lists_exist : all_lists ≡ true
lists_exist = readings.all_lists_lem

-- Every end, whatever VPP and RP#: such a load returns and leaves what the old one does (0, 21, 23, 24), with the cycles added that
-- specs/HeldEnds of loader_held_claims says, begins what the old one begins, and makes the cycles listed there; the model refuses none of
-- them, and none cuts an operation.
pub every_end : (verify : Bool) (j : Job) (xs w sc : List ℕ) → Taken j xs w sc → (bs ps room : List ℕ) → Elsewhere j.device j.block bs → length bs ≤ length room
    → HeldWhole verify j xs w sc bs ps room
every_end = grounds.whole

-- On lent bytes: beside the run without interruptions, whatever the end.
pub lent_beside : (verify : Bool) (j : Job) (array wanted scratch ps bs room : List ℕ) → LentTaken j array wanted scratch bs room
    → LentBeside verify j array wanted scratch ps bs room
lent_beside = lending.lent_beside

-- Where the tests of the lists refuse nothing the addresses are in other blocks, and the room has a unit for each.
pub addresses_elsewhere : (d : Device) (k : ℕ) (bs : List ℕ) (room : ℕ) → held_number d.part k bs room ≡ 0 → Elsewhere d k bs
addresses_elsewhere = addresses.elsewhere

pub room_enough : (d : Device) (k : ℕ) (bs room : List ℕ) → held_number d.part k bs (length room) ≡ 0 → length bs ≤ length (units d.part.word room)
room_enough = addresses.enough

-- Each interruption adds exactly k + 3 + max(1, S - 1) cycles before the erase's last poll, k + 3 in the last one's place ..
pub adds_before_last : (d : Device) (bs : List ℕ) (left : ℕ) → added_at d bs (suc left) ≡ length bs + 3 + max 1 (d.suspend - 1)
adds_before_last = readings.adds_before_last

pub adds_at_last : (d : Device) (bs : List ℕ) → added_at d bs 0 ≡ length bs + 3
adds_at_last = readings.adds_at_last

-- .. so at most S + k + 4, and all of them at most that as often as they are made; the erase's polls and what stands in their places are
-- as many cycles as the polls and what is added.
pub adds_most : (d : Device) (bs : List ℕ) (left : ℕ) → added_at d bs left ≤ d.suspend + length bs + 4
adds_most = rooms.adds_most

pub added_most : (d : Device) (bs ps : List ℕ) (m n : ℕ) → added_in d bs ps n m ≤ interruptions ps n m * (d.suspend + length bs + 4)
added_most = rooms.added_most

pub polls_cost_lem : (d : Device) (bs ps : List ℕ) (m n : ℕ) → polls_cost d bs ps n m ≡ m + added_in d bs ps n m
polls_cost_lem = rooms.cost_is

-- Some figures for E 3: interrupted at poll 1 with S 1 and no address 4 cycles, at the last 3; with two addresses at 1 and 2 (in any order,
-- one of them named twice, 0 and 9 beside them) and S 2 12, at the last with S 3 5, at all three with S 7 27.
pub some_figures :
    (figures 1 [] (1 ∷ []) ≡ 4) × (figures 1 [] (3 ∷ []) ≡ 3) × (figures 2 (0 ∷ 1 ∷ []) (2 ∷ 1 ∷ 2 ∷ 0 ∷ 9 ∷ []) ≡ 12) × (figures 3 (0 ∷ 1 ∷ []) (3 ∷ []) ≡ 5)
    × (figures 7 (0 ∷ 1 ∷ []) (3 ∷ 2 ∷ 1 ∷ []) ≡ 27)
some_figures = readings.some_figures

-- Whatever the end, the count is that of the load without interruptions and what is added: one equation; and each interruption adds at most
-- S + k + 4 there too.
pub count_added : (verify : Bool) (j : Job) (xs w sc : List ℕ) → Taken j xs w sc → (bs ps room : List ℕ) → Elsewhere j.device j.block bs → length bs ≤ length room
    → (held_ran (held_end verify j xs w sc bs ps room)).count
    ≡ (run_left (doing (Load verify) j) xs w sc).ran.count + added_by j.device j.pins j.block w (held_in (start_of j.device.part j.block) (length w) xs) bs ps
count_added = readings.count_added

pub added_by_most : (d : Device) (p : Pins) (k : ℕ) (w ys bs ps : List ℕ) → 0 < d.erase → added_by d p k w ys bs ps ≤ interruptions ps 0 d.erase * (d.suspend + length bs + 4)
added_by_most = readings.added_by_most

-- The count is the number of cycles made: any number of turns from anywhere adds to it the length of the list of their cycles.
pub counts_made : (d : Device) (w bs ps : List ℕ) (j : ℕ) (c : HeldConfig) → (held_after j d w bs ps c).count ≡ c.count + length (held_made j d w bs ps c)
counts_made = grounds.counts_made

-- The room after an interruption: at place i the array's unit at address i; past the addresses what it held. What was read stands in the
-- array still when the load has ended.
pub room_holds : (xs bs room : List ℕ) (i : ℕ) → i < length bs → get_or (filled_by xs bs room) i 0 ≡ get_or xs (get_or bs i 0) 0
room_holds = readings.room_holds

pub room_past : (xs bs room : List ℕ) (i : ℕ) → get_or (filled_by xs bs room) (length bs + i) 0 ≡ get_or room (length bs + i) 0
room_past = readings.room_past

pub still_there : (verify : Bool) (j : Job) (xs w sc bs ps room : List ℕ) → HeldStart verify j xs w sc bs ps room
    → (i : ℕ) → i < length bs → get_or (held_end verify j xs w sc bs ps room).bytes (get_or bs i 0) 0 ≡ get_or xs (get_or bs i 0) 0
still_there = readings.still_there

-- Least wear: no uncut cycles from the same start to the same block contents begin fewer erases of that block or fewer programs in it
-- than the load's own cycles with all their interruptions.
pub nothing_less : (verify : Bool) (j : Job) (xs w sc bs ps room : List ℕ) → HeldStart verify j xs w sc bs ps room → Cells j.device.part xs
    → (other : List Bus) → Brings j.device (world_of j.state xs) j.block w other → NoFewer j.device (world_of j.state xs) j.block (own_held verify j xs w sc bs ps room) other
nothing_less verify j xs w sc bs ps room start = (mission.demand_3 verify j xs w sc bs ps room start).least_wear

-- It begins what the load without interruptions begins.
pub begins_as_before : (verify : Bool) (j : Job) (xs w sc : List ℕ) → Taken j xs w sc → (bs ps room : List ℕ) → Elsewhere j.device j.block bs → length bs ≤ length room
    → held_begins verify j xs w sc bs ps room ≡ begun_at (doing (Load verify) j) xs w sc
begins_as_before verify j xs w sc t bs ps room els roomy = (grounds.whole verify j xs w sc t bs ps room els roomy).begun

-- 20, 22 and 25 never come from the model, whatever polls are told: 20 counts each wait afresh.
pub never : (verify : Bool) (j : Job) (xs w sc : List ℕ) → Taken j xs w sc → (bs ps room : List ℕ) → Elsewhere j.device j.block bs → length bs ≤ length room
    → ((held_ran (held_end verify j xs w sc bs ps room)).end ≡ 20 → ⊥) × ((held_ran (held_end verify j xs w sc bs ps room)).end ≡ 22 → ⊥) × ((held_ran (held_end verify j xs w sc bs ps room)).end ≡ 25 → ⊥)
never = readings.never

-- With no interruption it is the old load to the cycle: after any number of turns, from anywhere, where no poll to come is listed ..
pub as_before : (d : Device) (w bs ps room : List ℕ) (j : ℕ) (c : Config) (n : ℕ) → ((m : ℕ) → n < m → listed m ps ≡ false) → AsBefore d w bs ps room j c n
as_before = lifting.as_before

-- .. so with no poll told ..
pub empty_list : (j : ℕ) (d : Device) (w bs room : List ℕ) (c : Config) → AsBefore d w bs [] room j c 0
empty_list = lifting.empty_list

-- .. and on lent bytes where none of the numbers 1 to E is: a poll that never comes changes nothing.
pub no_interruption : (verify : Bool) (j : Job) (array wanted scratch ps bs room : List ℕ) → LentTaken j array wanted scratch bs room
    → ((i : ℕ) → 0 < i → i ≤ j.device.erase → listed i ps ≡ false)
    → lent_held (doing (Load verify) j) array wanted scratch ps bs room
    ≡ record {
      ran = (lent_run (doing (Load verify) j) array wanted scratch).ran;
      bytes = (lent_run (doing (Load verify) j) array wanted scratch).bytes;
      scratch = (lent_run (doing (Load verify) j) array wanted scratch).scratch;
      room = room;
    }
no_interruption = readings.no_interruption

-- Of the list of polls only its numbers are looked at: the order, an entry that stands twice and 0 change nothing. Lists that name the
-- same numbers from 1 on make the same load, turn by turn, from anywhere.
pub listed_joined : (n : ℕ) (ps qs : List ℕ) → listed n (ps ++ qs) ≡ (listed n ps || listed n qs)
listed_joined = lists.listed_joined

pub unsorted : (n : ℕ) (ps qs : List ℕ) → listed n (ps ++ qs) ≡ listed n (qs ++ ps)
unsorted = lists.unsorted

pub doubled : (n : ℕ) (ps : List ℕ) → listed n (ps ++ ps) ≡ listed n ps
doubled = lists.doubled

pub zero_unmet : (n : ℕ) (ps : List ℕ) → 0 < n → listed n (0 ∷ ps) ≡ listed n ps
zero_unmet = lists.zero_unmet

pub same_lists : (ps qs : List ℕ) → ((n : ℕ) → 0 < n → listed n ps ≡ listed n qs) → (d : Device) (w bs : List ℕ) (j : ℕ) (c : HeldConfig)
    → (held_after j d w bs ps c ≡ held_after j d w bs qs c) × (held_made j d w bs ps c ≡ held_made j d w bs qs c)
same_lists ps qs same d w bs j c = (lists.after_lists ps qs same d w bs j c, lists.made_lists ps qs same d w bs j c)

-- .. and from a start that nothing refuses only the numbers 1 to E are: the same is returned, read and made.
pub same_polls : (verify : Bool) (j : Job) (xs w ys bs ps qs room : List ℕ) → 0 < j.device.erase → ((i : ℕ) → 0 < i → i ≤ j.device.erase → listed i ps ≡ listed i qs)
    → (held_ran_as verify j w ys bs ps ≡ held_ran_as verify j w ys bs qs) × (room_as j.device j.pins j.block w ys xs bs ps room ≡ room_as j.device j.pins j.block w ys xs bs qs room)
    × (held_cycles_as verify j.device j.pins j.block (start_of j.device.part j.block) w ys bs ps ≡ held_cycles_as verify j.device j.pins j.block (start_of j.device.part j.block) w ys bs qs)
same_polls verify j xs w ys bs ps qs room some same = (
  lists.ran_same verify j w ys bs ps qs some same,
  lists.room_same verify j w ys bs ps qs some same xs room,
  lists.cycles_same verify j w ys bs ps qs some same (start_of j.device.part j.block),
)

-- Its cycles, put to a device alone, lead it to where the load is. From any input whatever.
pub own_leads : (d : Device) (w bs ps : List ℕ) (j : ℕ) (c : HeldConfig)
    → world_after d (world_of c.state c.bytes) (buses_of (held_made j d w bs ps c)) ≡ world_of (held_after j d w bs ps c).state (held_after j d w bs ps c).bytes
own_leads = own.own_leads

-- Stepping by hand (start_held, step_held) is the run, a sentence a field (specs/HeldStepping), from every start that nothing refuses;
-- `size` is the bytes of the room.
pub stepped_by_hand : (verify : Bool) (j : Job) (xs w sc : List ℕ) → Taken j xs w sc → (bs ps room : List ℕ) (size : ℕ)
    → held_number j.device.part j.block bs size ≡ 0 → length bs ≤ length room → HeldStepped verify j xs w sc bs ps room size
stepped_by_hand verify j xs w sc t bs ps room size none roomy =
    stepping.by_hand verify j xs w sc bs ps room size (starting.n0 verify j xs w sc t) none
    (grounds.whole verify j xs w sc t bs ps room (addresses.elsewhere j.device j.block bs size none) roomy).smooth

-- .. and so on lent bytes, by their units.
pub lent_stepped_by_hand : (verify : Bool) (j : Job) (array wanted scratch ps bs room : List ℕ) → LentTaken j array wanted scratch bs room
    → HeldStepped verify j (units j.device.part.word array) (units j.device.part.word wanted) (units j.device.part.word scratch) bs ps (units j.device.part.word room) (length room)
lent_stepped_by_hand verify j array wanted scratch ps bs room t =
    stepped_by_hand verify j (units j.device.part.word array) (units j.device.part.word wanted) (units j.device.part.word scratch) (lending.taken verify j array wanted scratch ps bs room t)
    bs ps (units j.device.part.word room) (length room) (lending.lists_none verify j array wanted scratch ps bs room t) (lending.roomy verify j array wanted scratch ps bs room t)
