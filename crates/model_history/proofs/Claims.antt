-- What is claimed of the counts of erases under any cycles, in one place.
use mathlib.Core.Path.{◌≡◌}
use mathlib.Core.List.{List}
use Prim.Native.Nat.{ℕ, ◌+◌, ◌≤◌, ◌<◌, min}
use Rattle.device.specs.declared.Device.{Device}
use Rattle.device.specs.Parts.{length_of}
use Rattle.model_types.specs.Counts.{stop, count_of}
use Rattle.model_states.specs.States.{fresh_state}
use Rattle.model_history.specs.History.{Bus, World, world_of, world_after, erases_begun}
use Rattle.model_history.proofs.Counting as counting

-- After any cycles from any start, refusals, cuts and resets among them, the stored count of a block is the one at the start and the
-- erases of it that were begun, up to the stop.
pub stored : (bs : List Bus) (d : Device) (v : World) (k : ℕ) → k < 7 → count_of v.state.wear k ≤ stop
    → count_of (world_after d v bs).state.wear k ≡ min (count_of v.state.wear k + erases_begun d v k bs) stop
stored = counting.stored

-- From a fresh device it is the erases begun, up to the stop.
pub stored_fresh : (bs : List Bus) (d : Device) (xs : List ℕ) (k : ℕ) → k < 7
    → count_of (world_after d (world_of fresh_state xs) bs).state.wear k ≡ min (erases_begun d (world_of fresh_state xs) k bs) stop
stored_fresh = counting.stored_fresh

-- The count of a block that the part has not is never touched, whatever it is.
pub untouched : (bs : List Bus) (d : Device) (v : World) (k : ℕ) → k < 7 → length_of d.part k ≡ 0 → count_of (world_after d v bs).state.wear k ≡ count_of v.state.wear k
untouched = counting.untouched
