-- Two results that a promise of this crate allows are equal, and so is what it leaves in each thing lent.
use mathlib.Core.Path.{◌≡◌}
use mathlib.Core.List.{List}
use Prim.Native.Nat.{ℕ}
use lib.IntN.{ℤ}
use lib.Ieee.{Float}
use lib.ListN.{length}
use Rattle.common.specs.Choice.{Unique}
use Rattle.common.proofs.Choice.{only}
use Rattle.device.specs.declared.Part.{Part}
use Rattle.device.specs.declared.Device.{Device}
use Rattle.model_types.specs.declared.Pins.{Pins}
use Rattle.model_types.specs.declared.State.{State}
use Rattle.file_codec.specs.File.{in_room, left_in}
use Rattle.loader_run.specs.declared.Ran.{Ran}
use Rattle.reading.specs.Readings.{answer_as, told_as}
use Rattle.reading.specs.declared.ReadingAnswer.{ReadingAnswer}
use Rattle.store_find.specs.Finds.{found_as, read_by}
use Rattle.store_find.specs.declared.Found.{Found}
use Rattle.store.specs.Stores.{part_number, found_on, drop_left, add_left}

pub part_number_unique : (part : Part) (array : ℕ) → Unique (λ (r : ℕ). r ≡ part_number part array)
part_number_unique part array = only (part_number part array)

pub find_letter_unique : (part : Part) (xs : List ℕ) (ℓ : ℕ) (room : List ℕ) → Unique (λ (r : Found). r ≡ found_as (in_room (length room) (found_on part xs ℓ)))
find_letter_unique part xs ℓ room = only (found_as (in_room (length room) (found_on part xs ℓ)))

pub find_letter_room_unique : (part : Part) (xs : List ℕ) (ℓ : ℕ) (room : List ℕ) → Unique (λ (left : List ℕ). left ≡ left_in room (in_room (length room) (found_on part xs ℓ)))
find_letter_room_unique part xs ℓ room = only (left_in room (in_room (length room) (found_on part xs ℓ)))

pub read_letter_unique : (part : Part) (xs : List ℕ) (ℓ : ℕ) (room : List ℕ) (x : ℤ) → Unique (λ (r : ReadingAnswer). r ≡ answer_as x (in_room (length room) (read_by ℓ (found_on part xs ℓ))))
read_letter_unique part xs ℓ room x = only (answer_as x (in_room (length room) (read_by ℓ (found_on part xs ℓ))))

pub read_letter_told_unique : (part : Part) (xs : List ℕ) (ℓ : ℕ) (room : List ℕ) (x : ℤ)
    → Unique (λ (told : ℕ × List (ℕ × Float)). told ≡ told_as x (in_room (length room) (read_by ℓ (found_on part xs ℓ))))
read_letter_told_unique part xs ℓ room x = only (told_as x (in_room (length room) (read_by ℓ (found_on part xs ℓ))))

pub read_letter_room_unique : (part : Part) (xs : List ℕ) (ℓ : ℕ) (room : List ℕ) → Unique (λ (left : List ℕ). left ≡ left_in room (in_room (length room) (read_by ℓ (found_on part xs ℓ))))
read_letter_room_unique part xs ℓ room = only (left_in room (in_room (length room) (read_by ℓ (found_on part xs ℓ))))

pub drop_letter_unique : (d : Device) (s : State) (p : Pins) (xs memory scratch : List ℕ) (ℓ : ℕ) → Unique (λ (r : Ran). r ≡ (drop_left d s p xs memory scratch ℓ).ran)
drop_letter_unique d s p xs memory scratch ℓ = only (drop_left d s p xs memory scratch ℓ).ran

pub drop_letter_array_unique : (d : Device) (s : State) (p : Pins) (xs memory scratch : List ℕ) (ℓ : ℕ) → Unique (λ (left : List ℕ). left ≡ (drop_left d s p xs memory scratch ℓ).bytes)
drop_letter_array_unique d s p xs memory scratch ℓ = only (drop_left d s p xs memory scratch ℓ).bytes

pub drop_letter_memory_unique : (d : Device) (s : State) (p : Pins) (xs memory scratch : List ℕ) (ℓ : ℕ) → Unique (λ (left : List ℕ). left ≡ (drop_left d s p xs memory scratch ℓ).memory)
drop_letter_memory_unique d s p xs memory scratch ℓ = only (drop_left d s p xs memory scratch ℓ).memory

pub drop_letter_scratch_unique : (d : Device) (s : State) (p : Pins) (xs memory scratch : List ℕ) (ℓ : ℕ) → Unique (λ (left : List ℕ). left ≡ (drop_left d s p xs memory scratch ℓ).scratch)
drop_letter_scratch_unique d s p xs memory scratch ℓ = only (drop_left d s p xs memory scratch ℓ).scratch

pub add_file_unique : (d : Device) (s : State) (p : Pins) (xs memory scratch : List ℕ) (f : List ℕ) (ℓ : ℕ) → Unique (λ (r : Ran). r ≡ (add_left d s p xs memory scratch f ℓ).ran)
add_file_unique d s p xs memory scratch f ℓ = only (add_left d s p xs memory scratch f ℓ).ran

pub add_file_array_unique : (d : Device) (s : State) (p : Pins) (xs memory scratch : List ℕ) (f : List ℕ) (ℓ : ℕ) → Unique (λ (left : List ℕ). left ≡ (add_left d s p xs memory scratch f ℓ).bytes)
add_file_array_unique d s p xs memory scratch f ℓ = only (add_left d s p xs memory scratch f ℓ).bytes

pub add_file_memory_unique : (d : Device) (s : State) (p : Pins) (xs memory scratch : List ℕ) (f : List ℕ) (ℓ : ℕ) → Unique (λ (left : List ℕ). left ≡ (add_left d s p xs memory scratch f ℓ).memory)
add_file_memory_unique d s p xs memory scratch f ℓ = only (add_left d s p xs memory scratch f ℓ).memory

pub add_file_scratch_unique : (d : Device) (s : State) (p : Pins) (xs memory scratch : List ℕ) (f : List ℕ) (ℓ : ℕ) → Unique (λ (left : List ℕ). left ≡ (add_left d s p xs memory scratch f ℓ).scratch)
add_file_scratch_unique d s p xs memory scratch f ℓ = only (add_left d s p xs memory scratch f ℓ).scratch
