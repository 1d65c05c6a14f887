-- Device, state and cycle as plain numbers, each way.
use Rattle.std.specs.Prelude.{Bool, not, ◌&&◌, ◌||◌, ℕ, eqb, ltb, if◌then◌else◌}
use Rattle.device.specs.declared.Part.{Part}
use Rattle.device.specs.declared.Device.{Device}
use Rattle.model_types.specs.declared.Pins.{Pins}
use Rattle.model_types.specs.declared.Kind.{Kind}
use Rattle.model_types.specs.declared.Kind.TheVariants.{Read, Write, Idle}
use Rattle.model_types.specs.declared.Cycle.{Cycle}
use Rattle.model_types.specs.declared.Mode.{Mode}
use Rattle.model_types.specs.declared.Mode.TheVariants.{Array, Status, Identifier}
use Rattle.model_types.specs.declared.Phase.{Phase}
use Rattle.model_types.specs.declared.Phase.TheVariants.{Free, EraseAwaited, DataAwaited, Programming, Erasing, Suspending, Suspended}
use Rattle.model_types.specs.declared.Wear.{Wear}
use Rattle.model_types.specs.declared.State.{State}
use Rattle.model_types.specs.Phases.{suspend_left}
use Rattle.model_states.specs.States.{is_at_rest, fresh_state}
use Rattle.c_cycle.specs.declared.DeviceNumbers.{DeviceNumbers}
use Rattle.c_cycle.specs.declared.WearNumbers.{WearNumbers}
use Rattle.c_cycle.specs.declared.StateNumbers.{StateNumbers}
use Rattle.c_cycle.specs.declared.BusNumbers.{BusNumbers}

-- the number of a part; where the mode is none, neither 0 (byte) nor 1 (word), a number that is no part's
unfoldable pub number_in : ℕ → ℕ → ℕ
number_in number word = if ltb 1 word then 0 else number

-- a part by its number and its mode
abbrev pub part_in : ℕ → ℕ → Part
part_in number word = record { number = number_in number word; word = eqb word 1 }

-- a flag as a number: 1 or 0
abbrev pub flag_out : Bool → ℕ
flag_out flag = if flag then 1 else 0

-- the device that five numbers name
abbrev pub device_in : DeviceNumbers → Device
device_in n = record { part = part_in n.number n.word; program = n.program; erase = n.erase; suspend = n.suspend }

-- a device's numbers
abbrev pub device_out : Device → DeviceNumbers
device_out d =
    record { number = d.part.number; word = flag_out d.part.word; program = d.program; erase = d.erase; suspend = d.suspend }

-- the levels that a run keeps fixed
abbrev pub pins_in : ℕ → ℕ → ℕ → Pins
pins_in rp wp vpp = record { rp = rp; vpp = vpp; wp = wp }

-- modes: 0 read array, 1 read status, 2 identifier
unfoldable pub mode_in : ℕ → Mode
mode_in n =
    if eqb n 0 then Array
    else if eqb n 1 then Status
    else Identifier

-- .. and a mode as its number
abbrev pub mode_out : Mode → ℕ
mode_out Array = 0
mode_out Status = 1
mode_out Identifier = 2

-- phases: 0 free, 1 confirm awaited, 2 data awaited, 3 programming a byte or a word, 4 erasing, 5 suspended, 6 being suspended
unfoldable pub phase_in : ℕ → ℕ → ℕ → Phase
phase_in n unit suspend =
    if eqb n 0 then Free
    else if eqb n 1 then EraseAwaited
    else if eqb n 2 then DataAwaited
    else if eqb n 3 then Programming unit
    else if eqb n 4 then Erasing
    else if eqb n 5 then Suspended
    else Suspending suspend

-- .. and a phase as its number
abbrev pub phase_out : Phase → ℕ
phase_out Free = 0
phase_out EraseAwaited = 1
phase_out DataAwaited = 2
phase_out (Programming unit) = 3
phase_out Erasing = 4
phase_out (Suspending suspend) = 6
phase_out Suspended = 5

-- the byte or the word that is being programmed, 0 in every other phase
abbrev pub data_out : Phase → ℕ
data_out Free = 0
data_out EraseAwaited = 0
data_out DataAwaited = 0
data_out (Programming unit) = unit
data_out Erasing = 0
data_out (Suspending suspend) = 0
data_out Suspended = 0

-- data where none are being programmed
unfoldable pub stray_data : StateNumbers → Bool
stray_data n = not (eqb n.data 0) && not (eqb n.phase 3)

-- cycles of a suspend where none is under way
unfoldable pub stray_suspend : StateNumbers → Bool
stray_suspend n = not (eqb n.suspend 0) && not (eqb n.phase 6)

-- the numbers stand for no state: no such mode, no such phase, or something where none may be
unfoldable pub no_state : StateNumbers → Bool
no_state n = ((ltb 2 n.mode || ltb 6 n.phase) || stray_data n) || stray_suspend n

-- counts of erases, each number as it is: all numbers are counts
abbrev pub wear_in : WearNumbers → Wear
wear_in n =
    record {
      block0 = n.block0;
      block1 = n.block1;
      block2 = n.block2;
      block3 = n.block3;
      block4 = n.block4;
      block5 = n.block5;
      block6 = n.block6;
    }

-- .. and back
abbrev pub wear_out : Wear → WearNumbers
wear_out w =
    record {
      block0 = w.block0;
      block1 = w.block1;
      block2 = w.block2;
      block3 = w.block3;
      block4 = w.block4;
      block5 = w.block5;
      block6 = w.block6;
    }

-- numbers as a state; those that stand for none become one that is improper on every device: at rest with SR.7 clear, no erase counted
unfoldable pub state_in : StateNumbers → State
state_in n =
    if no_state n then is_at_rest fresh_state Array 0
    else record {
      mode = mode_in n.mode;
      status = n.status;
      phase = phase_in n.phase n.data n.suspend;
      left = n.left;
      address = n.address;
      wear = wear_in n.wear;
    }

-- .. and a state as numbers
abbrev pub state_out : State → StateNumbers
state_out s =
    record {
      mode = mode_out s.mode;
      status = s.status;
      phase = phase_out s.phase;
      suspend = suspend_left s.phase;
      left = s.left;
      «data» = data_out s.phase;
      address = s.address;
      wear = wear_out s.wear;
    }

-- kinds of cycle: 0 read, 1 write, 2 idle
unfoldable pub kind_in : ℕ → Kind
kind_in n =
    if eqb n 0 then Read
    else if eqb n 1 then Write
    else Idle

-- .. and a kind as its number
abbrev pub kind_out : Kind → ℕ
kind_out Read = 0
kind_out Write = 1
kind_out Idle = 2

-- OE# of a cycle; where the kind is none, a level that every kind refuses
unfoldable pub oe_in : ℕ → ℕ → ℕ
oe_in kind oe = if ltb 2 kind then 2 else oe

-- numbers as a cycle
abbrev pub cycle_in : BusNumbers → Cycle
cycle_in n =
    record {
      kind = kind_in n.kind;
      pins = pins_in n.rp n.wp n.vpp;
      oe = oe_in n.kind n.oe;
      address = n.address;
      «data» = n.data;
    }

-- .. and a cycle as numbers
abbrev pub cycle_out : Cycle → BusNumbers
cycle_out c =
    record {
      kind = kind_out c.kind;
      rp = c.pins.rp;
      oe = c.oe;
      wp = c.pins.wp;
      «data» = c.data;
      vpp = c.pins.vpp;
      address = c.address;
    }
