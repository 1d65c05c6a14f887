-- What the C functions of the store give and leave, on plain numbers.
use Rattle.std.specs.Prelude.{List, ℕ, ℤ, length}
use Rattle.file_codec.specs.File.{in_room, left_in}
use Rattle.reading.specs.Readings.{answer_as}
use Rattle.store_find.specs.declared.Found.{Found}
use Rattle.store_find.specs.Finds.{found_as, read_by}
use Rattle.store.specs.Stores.{found_on, ChangeLeft, drop_left, add_left}
use Rattle.c_cycle.specs.declared.DeviceNumbers.{DeviceNumbers}
use Rattle.c_cycle.specs.declared.StateNumbers.{StateNumbers}
use Rattle.c_cycle.specs.Values.{part_in, device_in, state_in, pins_in}
use Rattle.c_records.specs.declared.SizedNumbers.{SizedNumbers}
use Rattle.c_records.specs.declared.RanNumbers.{RanNumbers}
use Rattle.c_records.specs.Records.{sized_as, ran_out}
use Rattle.c_readings.specs.declared.ReadingNumbers.{ReadingNumbers}
use Rattle.c_readings.specs.Readings.{answer_numbers}

-- what a find answers, as numbers: 0 and the file's length, or the number and 0
abbrev pub found_out : Found → SizedNumbers
found_out f = sized_as f.number f.length

-- a find: its answer, and what is left of room
unfoldable pub store_found : ℕ → ℕ → ℕ → List ℕ → List ℕ → SizedNumbers
store_found part word letter xs room = found_out (found_as (in_room (length room) (found_on (part_in part word) xs letter)))

-- .. what it leaves in room
unfoldable pub room_found : ℕ → ℕ → ℕ → List ℕ → List ℕ → List ℕ
room_found part word letter xs room = left_in room (in_room (length room) (found_on (part_in part word) xs letter))

-- a reading by the file that is found: its answer, and what is left of room
unfoldable pub store_read : ℕ → ℕ → ℕ → List ℕ → List ℕ → ℤ → ReadingNumbers
store_read part word letter xs room x =
    answer_numbers (answer_as x (in_room (length room) (read_by letter (found_on (part_in part word) xs letter))))

-- .. what it leaves in room
unfoldable pub room_read : ℕ → ℕ → ℕ → List ℕ → List ℕ → List ℕ
room_read part word letter xs room = left_in room (in_room (length room) (read_by letter (found_on (part_in part word) xs letter)))

-- a drop: what it leaves, and its answer
unfoldable pub dropped : DeviceNumbers → StateNumbers → ℕ → ℕ → ℕ → ℕ → List ℕ → List ℕ → List ℕ → ChangeLeft
dropped d s rp wp vpp letter xs memory scratch = drop_left (device_in d) (state_in s) (pins_in rp wp vpp) xs memory scratch letter

-- .. its answer as numbers
abbrev pub store_dropped : DeviceNumbers → StateNumbers → ℕ → ℕ → ℕ → ℕ → List ℕ → List ℕ → List ℕ → RanNumbers
store_dropped d s rp wp vpp letter xs memory scratch = ran_out s (dropped d s rp wp vpp letter xs memory scratch).ran

-- an add of the file f: what it leaves, and its answer
unfoldable pub added : DeviceNumbers → StateNumbers → ℕ → ℕ → ℕ → ℕ → List ℕ → List ℕ → List ℕ → List ℕ → ChangeLeft
added d s rp wp vpp letter f xs memory scratch = add_left (device_in d) (state_in s) (pins_in rp wp vpp) xs memory scratch f letter

-- .. its answer as numbers
abbrev pub store_added : DeviceNumbers → StateNumbers → ℕ → ℕ → ℕ → ℕ → List ℕ → List ℕ → List ℕ → List ℕ → RanNumbers
store_added d s rp wp vpp letter f xs memory scratch = ran_out s (added d s rp wp vpp letter f xs memory scratch).ran
