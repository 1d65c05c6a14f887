-- Two results that a promise of this crate allows are equal, and so is what it leaves in each thing lent.
use mathlib.Core.Path.{◌≡◌}
use mathlib.Core.List.{List}
use Prim.Native.Nat.{ℕ}
use Rattle.common.specs.Choice.{Unique}
use Rattle.common.proofs.Choice.{only}
use Rattle.loader_held.specs.declared.Pair.{Pair}
use Rattle.c_cycle.specs.declared.DeviceNumbers.{DeviceNumbers}
use Rattle.c_cycle.specs.declared.StateNumbers.{StateNumbers}
use Rattle.c_records.specs.declared.RanNumbers.{RanNumbers}
use Rattle.c_held.specs.declared.HeldNumbers.{HeldNumbers}
use Rattle.c_held.specs.declared.HeldResponseNumbers.{HeldResponseNumbers}
use Rattle.c_held.specs.Helds.{held_in, held_out, held_back, started_held, stepped_held, scratch_stepped_held, room_stepped_held, held_run_left, held_run_of, held_load_left, held_load_of}

pub held_in_unique : (n : HeldNumbers) → Unique (λ (r : Pair). r ≡ held_in n)
held_in_unique n = only (held_in n)

pub held_out_unique : (q : Pair) → Unique (λ (r : HeldNumbers). r ≡ held_out q)
held_out_unique q = only (held_out q)

pub held_back_unique : (n : HeldNumbers) (q : Pair) → Unique (λ (r : HeldNumbers). r ≡ held_back n q)
held_back_unique n q = only (held_back n q)

pub held_start_unique : (part word rp wp vpp block verify : ℕ) (wanted scratch addresses room : List ℕ)
    → Unique (λ (r : HeldResponseNumbers). r ≡ started_held part word rp wp vpp block verify wanted scratch addresses room)
held_start_unique part word rp wp vpp block verify wanted scratch addresses room = only (started_held part word rp wp vpp block verify wanted scratch addresses room)

pub held_step_unique : (held : HeldNumbers) (value : ℕ) (wanted scratch polls addresses room : List ℕ)
    → Unique (λ (r : HeldResponseNumbers). r ≡ stepped_held held value wanted scratch polls addresses room)
held_step_unique held value wanted scratch polls addresses room = only (stepped_held held value wanted scratch polls addresses room)

pub held_step_scratch_unique : (held : HeldNumbers) (value : ℕ) (wanted scratch addresses room : List ℕ)
    → Unique (λ (left : List ℕ). left ≡ scratch_stepped_held held value wanted scratch addresses room)
held_step_scratch_unique held value wanted scratch addresses room = only (scratch_stepped_held held value wanted scratch addresses room)

pub held_step_room_unique : (held : HeldNumbers) (value : ℕ) (wanted scratch addresses room : List ℕ)
    → Unique (λ (left : List ℕ). left ≡ room_stepped_held held value wanted scratch addresses room)
held_step_room_unique held value wanted scratch addresses room = only (room_stepped_held held value wanted scratch addresses room)

pub held_run_unique : (device : DeviceNumbers) (state : StateNumbers) (rp wp vpp block verify : ℕ) (array wanted scratch polls addresses room : List ℕ) → Unique (λ (r : RanNumbers). r ≡ held_run_of device state rp wp vpp block verify array wanted scratch polls addresses room)
held_run_unique device state rp wp vpp block verify array wanted scratch polls addresses room = only (held_run_of device state rp wp vpp block verify array wanted scratch polls addresses room)

pub held_run_array_unique : (device : DeviceNumbers) (state : StateNumbers) (rp wp vpp block verify : ℕ) (array wanted scratch polls addresses room : List ℕ) → Unique (λ (left : List ℕ). left ≡ (held_run_left device state rp wp vpp block verify array wanted scratch polls addresses room).bytes)
held_run_array_unique device state rp wp vpp block verify array wanted scratch polls addresses room = only (held_run_left device state rp wp vpp block verify array wanted scratch polls addresses room).bytes

pub held_run_scratch_unique : (device : DeviceNumbers) (state : StateNumbers) (rp wp vpp block verify : ℕ) (array wanted scratch polls addresses room : List ℕ) → Unique (λ (left : List ℕ). left ≡ (held_run_left device state rp wp vpp block verify array wanted scratch polls addresses room).scratch)
held_run_scratch_unique device state rp wp vpp block verify array wanted scratch polls addresses room = only (held_run_left device state rp wp vpp block verify array wanted scratch polls addresses room).scratch

pub held_run_room_unique : (device : DeviceNumbers) (state : StateNumbers) (rp wp vpp block verify : ℕ) (array wanted scratch polls addresses room : List ℕ) → Unique (λ (left : List ℕ). left ≡ (held_run_left device state rp wp vpp block verify array wanted scratch polls addresses room).room)
held_run_room_unique device state rp wp vpp block verify array wanted scratch polls addresses room = only (held_run_left device state rp wp vpp block verify array wanted scratch polls addresses room).room

pub held_load_unique : (device : DeviceNumbers) (state : StateNumbers) (rp wp vpp block verify letter : ℕ) (file array wanted scratch polls addresses room : List ℕ) → Unique (λ (r : RanNumbers). r ≡ held_load_of device state rp wp vpp block verify letter file array wanted scratch polls addresses room)
held_load_unique device state rp wp vpp block verify letter file array wanted scratch polls addresses room = only (held_load_of device state rp wp vpp block verify letter file array wanted scratch polls addresses room)

pub held_load_array_unique : (device : DeviceNumbers) (state : StateNumbers) (rp wp vpp block verify letter : ℕ) (file array wanted scratch polls addresses room : List ℕ) → Unique (λ (left : List ℕ). left ≡ (held_load_left device state rp wp vpp block verify letter file array wanted scratch polls addresses room).bytes)
held_load_array_unique device state rp wp vpp block verify letter file array wanted scratch polls addresses room = only (held_load_left device state rp wp vpp block verify letter file array wanted scratch polls addresses room).bytes

pub held_load_wanted_unique : (device : DeviceNumbers) (state : StateNumbers) (rp wp vpp block verify letter : ℕ) (file array wanted scratch polls addresses room : List ℕ) → Unique (λ (left : List ℕ). left ≡ (held_load_left device state rp wp vpp block verify letter file array wanted scratch polls addresses room).wanted)
held_load_wanted_unique device state rp wp vpp block verify letter file array wanted scratch polls addresses room = only (held_load_left device state rp wp vpp block verify letter file array wanted scratch polls addresses room).wanted

pub held_load_scratch_unique : (device : DeviceNumbers) (state : StateNumbers) (rp wp vpp block verify letter : ℕ) (file array wanted scratch polls addresses room : List ℕ) → Unique (λ (left : List ℕ). left ≡ (held_load_left device state rp wp vpp block verify letter file array wanted scratch polls addresses room).scratch)
held_load_scratch_unique device state rp wp vpp block verify letter file array wanted scratch polls addresses room = only (held_load_left device state rp wp vpp block verify letter file array wanted scratch polls addresses room).scratch

pub held_load_room_unique : (device : DeviceNumbers) (state : StateNumbers) (rp wp vpp block verify letter : ℕ) (file array wanted scratch polls addresses room : List ℕ) → Unique (λ (left : List ℕ). left ≡ (held_load_left device state rp wp vpp block verify letter file array wanted scratch polls addresses room).room)
held_load_room_unique device state rp wp vpp block verify letter file array wanted scratch polls addresses room = only (held_load_left device state rp wp vpp block verify letter file array wanted scratch polls addresses room).room
