-- Two results that a promise of this crate allows are equal, and so is what it leaves in each thing lent.
use mathlib.Core.Path.{◌≡◌}
use mathlib.Core.List.{List}
use Prim.Native.Nat.{ℕ}
use lib.IntN.{ℤ}
use Rattle.common.specs.Choice.{Unique}
use Rattle.common.proofs.Choice.{only}
use Rattle.c_cycle.specs.declared.DeviceNumbers.{DeviceNumbers}
use Rattle.c_cycle.specs.declared.StateNumbers.{StateNumbers}
use Rattle.c_records.specs.declared.SizedNumbers.{SizedNumbers}
use Rattle.c_records.specs.declared.RanNumbers.{RanNumbers}
use Rattle.c_readings.specs.declared.ReadingNumbers.{ReadingNumbers}
use Rattle.c_store.specs.Calls.{store_found, room_found, store_read, room_read, dropped, store_dropped, added, store_added}

pub store_find_unique : (part word letter : ℕ) (array room : List ℕ) → Unique (λ (r : SizedNumbers). r ≡ store_found part word letter array room)
store_find_unique part word letter array room = only (store_found part word letter array room)

pub store_find_room_unique : (part word letter : ℕ) (array room : List ℕ) → Unique (λ (left : List ℕ). left ≡ room_found part word letter array room)
store_find_room_unique part word letter array room = only (room_found part word letter array room)

pub store_read_unique : (part word letter : ℕ) (array room : List ℕ) (microvolts : ℤ) → Unique (λ (r : ReadingNumbers). r ≡ store_read part word letter array room microvolts)
store_read_unique part word letter array room microvolts = only (store_read part word letter array room microvolts)

pub store_read_room_unique : (part word letter : ℕ) (array room : List ℕ) → Unique (λ (left : List ℕ). left ≡ room_read part word letter array room)
store_read_room_unique part word letter array room = only (room_read part word letter array room)

pub store_drop_unique : (device : DeviceNumbers) (state : StateNumbers) (rp wp vpp letter : ℕ) (array memory scratch : List ℕ) → Unique (λ (r : RanNumbers). r ≡ store_dropped device state rp wp vpp letter array memory scratch)
store_drop_unique device state rp wp vpp letter array memory scratch = only (store_dropped device state rp wp vpp letter array memory scratch)

pub store_drop_array_unique : (device : DeviceNumbers) (state : StateNumbers) (rp wp vpp letter : ℕ) (array memory scratch : List ℕ) → Unique (λ (left : List ℕ). left ≡ (dropped device state rp wp vpp letter array memory scratch).bytes)
store_drop_array_unique device state rp wp vpp letter array memory scratch = only (dropped device state rp wp vpp letter array memory scratch).bytes

pub store_drop_memory_unique : (device : DeviceNumbers) (state : StateNumbers) (rp wp vpp letter : ℕ) (array memory scratch : List ℕ) → Unique (λ (left : List ℕ). left ≡ (dropped device state rp wp vpp letter array memory scratch).memory)
store_drop_memory_unique device state rp wp vpp letter array memory scratch = only (dropped device state rp wp vpp letter array memory scratch).memory

pub store_drop_scratch_unique : (device : DeviceNumbers) (state : StateNumbers) (rp wp vpp letter : ℕ) (array memory scratch : List ℕ) → Unique (λ (left : List ℕ). left ≡ (dropped device state rp wp vpp letter array memory scratch).scratch)
store_drop_scratch_unique device state rp wp vpp letter array memory scratch = only (dropped device state rp wp vpp letter array memory scratch).scratch

pub store_add_unique : (device : DeviceNumbers) (state : StateNumbers) (rp wp vpp letter : ℕ) (file array memory scratch : List ℕ) → Unique (λ (r : RanNumbers). r ≡ store_added device state rp wp vpp letter file array memory scratch)
store_add_unique device state rp wp vpp letter file array memory scratch = only (store_added device state rp wp vpp letter file array memory scratch)

pub store_add_array_unique : (device : DeviceNumbers) (state : StateNumbers) (rp wp vpp letter : ℕ) (file array memory scratch : List ℕ) → Unique (λ (left : List ℕ). left ≡ (added device state rp wp vpp letter file array memory scratch).bytes)
store_add_array_unique device state rp wp vpp letter file array memory scratch = only (added device state rp wp vpp letter file array memory scratch).bytes

pub store_add_memory_unique : (device : DeviceNumbers) (state : StateNumbers) (rp wp vpp letter : ℕ) (file array memory scratch : List ℕ) → Unique (λ (left : List ℕ). left ≡ (added device state rp wp vpp letter file array memory scratch).memory)
store_add_memory_unique device state rp wp vpp letter file array memory scratch = only (added device state rp wp vpp letter file array memory scratch).memory

pub store_add_scratch_unique : (device : DeviceNumbers) (state : StateNumbers) (rp wp vpp letter : ℕ) (file array memory scratch : List ℕ) → Unique (λ (left : List ℕ). left ≡ (added device state rp wp vpp letter file array memory scratch).scratch)
store_add_scratch_unique device state rp wp vpp letter file array memory scratch = only (added device state rp wp vpp letter file array memory scratch).scratch
