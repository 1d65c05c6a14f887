-- What is claimed of the store beyond its promises, in one place.
use mathlib.Core.Path.{◌≡◌}
use mathlib.Core.List.{List}
use mathlib.Core.Bool.{true, false}
use mathlib.Core.Logic.{◌↔◌}
use Prim.Native.Nat.{ℕ, ◌+◌, ◌*◌, ◌≤◌, ◌<◌}
use lib.ListN.{length, get_or, replicate}
use Rattle.std.specs.Prelude.{if◌then◌else◌}
use Rattle.common.specs.Lists.{Bytes}
use Rattle.device.specs.declared.Device.{Device}
use Rattle.device.specs.Parts.{is_large, size_of}
use Rattle.model_types.specs.declared.Pins.{Pins}
use Rattle.model_types.specs.declared.State.{State}
use Rattle.model_types.specs.Counts.{worn}
use Rattle.model_levels.specs.Levels.{vpp_high}
use Rattle.file_block.specs.Block.{is_letter}
use Rattle.file_codec.specs.File.{limit}
use Rattle.loader_walk.specs.Walks.{rises_in}
use Rattle.loader_run.specs.Runs.{lent_number, lent_run}
use Rattle.loader_run_claims.specs.Lent.{LentDemand3}
use Rattle.loader_from_file.specs.Loads.{wanted_of, load_left}
use Rattle.loader_from_file_claims.specs.Through.{FileStart}
use Rattle.store_places.specs.Store.{Reader, adds, drops, has_in, live_in, without, places_in, items_in, is_proper, find_place_number, find_of, add_of, run_for, last_under, Proper}
use Rattle.store_survey.specs.Survey.{reader_number}
use Rattle.store_survey.proofs.Reader.{file_reader}
use Rattle.store.specs.Stores.{main_of, no_store, add_number, found_on, change_made, change_refused, change_job}
use Rattle.store_claims.specs.Calls.{places_for, places_at, Call, call_number, call_left, contents_by, array_through, AllSettled, changes_made, FileBytes, AllBytes, Timed, Kept, file_or42, AllHigh, Spared}
use Rattle.store_claims.proofs.Calls as calls
use Rattle.store_claims.proofs.ManyCalls as many
use Rattle.store_claims.proofs.Worn as wearing
use Rattle.store_claims.proofs.AddedAgain as again
use Rattle.store_claims.proofs.FullAndFound as further
use Rattle.store_claims.proofs.Loads as loads

-- Any calls on one device, one after the other, at any levels and from any states, each an add or a drop that is refused before a cycle or
-- ends well: under each letter stands the file last added and not dropped, or the one that stood there at first; a proper store stays one;
-- every byte outside the main block is as before (specs/Calls).
pub any_calls : (d : Device) → Timed d → (cs : List Call) (xs : List ℕ) → Bytes xs → AllBytes cs → AllSettled d cs xs → Kept d cs xs
any_calls = many.kept

-- What a find then answers, from any proper store: that file, and 42 where there is none.
pub finds_last : (d : Device) → Timed d → (cs : List Call) (xs : List ℕ) → Bytes xs → AllBytes cs → AllSettled d cs xs
    → no_store d.part ≡ false → length xs ≡ size_of d.part → Proper (reader_number limit) (places_for d.part) (main_of d.part xs)
    → (m : ℕ) → found_on d.part (array_through d cs xs) m ≡ file_or42 (last_under m (changes_made d cs xs) (find_of (reader_number limit) m (main_of d.part xs)))
finds_last = many.finds_last

-- With VPP high each call is refused before a cycle or ends well: nothing else has to be asked of the calls.
pub all_settled : (d : Device) → Timed d → (cs : List Call) (xs : List ℕ) → Bytes xs → AllBytes cs → AllHigh d cs → AllSettled d cs xs
all_settled = many.all_settled

-- A call that nothing refuses is one run of block 3 with the block's new contents as wanted: what it returns and leaves is what that run
-- returns and leaves, and with VPP high all of demand 3 holds of it: it ends well, the block holds the new contents, every other byte is as
-- before, the count is the formula's, and nothing wears less.
pub made_by_run : (d : Device) (xs : List ℕ) (c : Call) → Timed d → Bytes xs → FileBytes c.change → call_number d xs c ≡ 0
    → call_left d xs c ≡ change_made (lent_run (change_job d c.state c.pins) xs (contents_by d xs c) c.scratch) (contents_by d xs c)
made_by_run = calls.made_by_run

pub run_demand_3 : (d : Device) (xs : List ℕ) (c : Call) → Timed d → Bytes xs → FileBytes c.change → call_number d xs c ≡ 0 → vpp_high d.part c.pins ≡ true
    → LentDemand3 true (change_job d c.state c.pins) xs (contents_by d xs c) c.scratch
run_demand_3 = calls.with_supply

-- A call that is refused makes no cycle and touches nothing.
pub refused_never : (d : Device) (xs : List ℕ) (c : Call) → (call_number d xs c ≡ 0 → ⊥) → call_left d xs c ≡ change_refused (call_number d xs c) c.state xs c.memory c.scratch
refused_never = calls.refused_left

-- 43 exactly: on devices 1 to 4, where no number of a run applies, the file is read and the store is proper, an add is refused 43 just
-- where the live blocks without the replaced file, and the new ones, exceed 224, or 28 on the bench devices.
pub room_43 : (d : Device) (s : State) (p : Pins) (xs : List ℕ) (memory scratch : ℕ) (b : List ℕ) (ℓ : ℕ) → is_large d.part ≡ false → lent_number (change_job d s p) (length xs) memory scratch ≡ 0
    → reader_number limit ℓ b ≡ 0 → is_proper (reader_number limit) (main_of d.part xs) ≡ true
    → (add_number d s p xs memory scratch b ℓ ≡ 43) ↔ (places_at d.part.number < live_in (without ℓ (items_in (reader_number limit) (main_of d.part xs))) + get_or b 2 0)
room_43 = further.room_43

-- A drop begins no erase, and no count of erases goes up.
pub drop_spares : (d : Device) (xs : List ℕ) (c : Call) → Timed d → Bytes xs → FileBytes c.change → call_number d xs c ≡ 0 → vpp_high d.part c.pins ≡ true
    → (ℓ : ℕ) → c.change ≡ drops ℓ → Spared d xs c
drop_spares = wearing.drop_spares

-- Nor does an add that finds a long enough run of blank places: an add erases only when it slides.
pub add_spares : (d : Device) (xs : List ℕ) (c : Call) → Timed d → Bytes xs → FileBytes c.change → call_number d xs c ≡ 0 → vpp_high d.part c.pins ≡ true
    → (ℓ : ℕ) (b : List ℕ) → c.change ≡ adds ℓ b → run_for ℓ (places_in b) (items_in (reader_number limit) (main_of d.part xs)) ≡ true → Spared d xs c
add_spares = wearing.add_spares

-- What any call wears: one erase more of the main block exactly where some bit of it must rise, else every count is as it was.
pub wears : (d : Device) (xs : List ℕ) (c : Call) → Timed d → Bytes xs → FileBytes c.change → call_number d xs c ≡ 0 → vpp_high d.part c.pins ≡ true
    → (call_left d xs c).ran.state.wear ≡ (if rises_in (contents_by d xs c) (main_of d.part xs) then worn c.state.wear 3 else c.state.wear)
wears = wearing.wear_is

-- A slide need not erase: a file added again to the block that it fills slides, and leaves the block as it is.
pub slide_may_spare : (ℓ : ℕ) (b : List ℕ) → reader_number limit ℓ b ≡ 0 → (run_for ℓ (places_in b) (items_in (reader_number limit) b) ≡ false) × (add_of (reader_number limit) ℓ b b ≡ b)
slide_may_spare ℓ b z = (again.again_slides (reader_number limit) (file_reader limit) ℓ b z, again.again_same (reader_number limit) (file_reader limit) ℓ b z)

-- The letter found is the letter asked: what stands under a letter is read for that letter, begins with it, and the letter is one of the
-- eight.
pub found_lettered : (N ℓ : ℕ) (main : List ℕ) → Proper (reader_number limit) N main → has_in ℓ (items_in (reader_number limit) main) ≡ true
    → (reader_number limit ℓ (find_of (reader_number limit) ℓ main) ≡ 0) × (get_or (find_of (reader_number limit) ℓ main) 0 0 ≡ ℓ) × (is_letter ℓ ≡ true)
found_lettered = further.found_lettered

-- A letter that is none of the eight is 42.
pub no_letter_42 : (N ℓ : ℕ) (main : List ℕ) → Proper (reader_number limit) N main → is_letter ℓ ≡ false → find_place_number (reader_number limit) ℓ main ≡ 42
no_letter_42 = further.no_letter_42

-- What a load of one file leaves, the file and FFH to the block's end, is a proper store in which that file is found.
pub load_leaves : (N ℓ : ℕ) (b : List ℕ) → reader_number limit ℓ b ≡ 0 → length b ≤ 512 * N
    → Proper (reader_number limit) N (wanted_of b (512 * N)) × (find_of (reader_number limit) ℓ (wanted_of b (512 * N)) ≡ b)
load_leaves = further.load_leaves

-- .. so after a load of one file into the main block of devices 1 to 4, that nothing refuses and with VPP high, the main block is a proper
-- store in which that file is found.
pub load_makes_store : (d : Device) (s : State) (p : Pins) (xs w sc f : List ℕ) (asked : ℕ) → is_large d.part ≡ false → FileStart (change_job d s p) xs w sc f asked
    → Proper (reader_number limit) (places_for d.part) (main_of d.part (load_left (change_job d s p) xs w sc f asked).bytes)
    × (find_of (reader_number limit) asked (main_of d.part (load_left (change_job d s p) xs w sc f asked).bytes) ≡ f)
load_makes_store = loads.load_makes_store

-- An erased block is the empty store: 42 for every letter.
pub erased_empty : (N ℓ : ℕ) → find_place_number (reader_number limit) ℓ (replicate (512 * N) 255) ≡ 42
erased_empty = again.erased_empty (reader_number limit) (file_reader limit)

-- The reader of load files is a reader for the store, so all that store_places claims over any reader holds of it.
pub reader_fits : Reader (reader_number limit)
reader_fits = file_reader limit
