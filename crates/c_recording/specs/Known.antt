-- A walk over records as numbers, and what makes a record one that is known without its being judged. None of this is part of what a buyer
-- must believe: what a record comes to is the step's own, whichever way it goes.
use Rattle.std.specs.Prelude.{◌≡◌, true, false, List, ℕ, ◌+◌, ◌*◌, ◌/◌, ◌%◌, ◌≤◌, ◌<◌, length, eqb}
use Rattle.common.specs.Lists.{Bytes}
use Rattle.recording.specs.declared.Recorded.{Recorded}
use Rattle.recording.specs.Recordings.{recorded_of, bytes_recorded}
use Rattle.recording_walk.specs.declared.Walk.{Walk}
use Rattle.c_cycle.specs.declared.DeviceNumbers.{DeviceNumbers}
use Rattle.c_cycle.specs.declared.StateNumbers.{StateNumbers}
use Rattle.c_cycle.specs.declared.WearNumbers.{WearNumbers}
use Rattle.c_cycle.specs.Values.{device_in, state_in}
use Rattle.c_ordinary.specs.Ordinary.{units_for, fair_level_in, timed_in}
use Rattle.c_recording.specs.declared.RecordNumbers.{RecordNumbers}
use Rattle.c_recording.specs.declared.Going.{Going}
use Rattle.c_recording.specs.declared.Moved.{Moved}
use Rattle.c_recording.specs.declared.Stepped.{Stepped}
use Rattle.c_recording.specs.Records.{record_in}

-- cycles to go, data and address as one number
abbrev pub rest_of : StateNumbers → ℕ
rest_of n = n.left + 65536 * n.data + 4294967296 * n.address

-- a state by its two numbers and its counts
abbrev pub state_of : ℕ → ℕ → WearNumbers → StateNumbers
state_of key rest w =
    record {
      mode = key % 256;
      status = key / 256 % 256;
      phase = key / 65536 % 256;
      suspend = key / 16777216;
      left = rest % 65536;
      «data» = rest / 65536 % 65536;
      address = rest / 4294967296;
      wear = w;
    }

-- the walk that the numbers stand for
abbrev pub walk_in : Going → Walk
walk_in g =
    record {
      device = device_in g.device;
      state = state_in (state_of g.key g.rest g.wear);
      number = g.number;
      stopped = g.stopped;
      at = g.at;
    }

-- the units are those of an array of so many bytes, and the device has times, where there are any units
abbrev pub Sized : DeviceNumbers → ℕ → ℕ → Type 0
Sized d u len = 0 < u → (u ≡ units_for d.number d.word len) × (timed_in d ≡ true)

-- a record that is known, by the two numbers that it leaves
abbrev pub moved_as : ℕ → ℕ → Moved
moved_as key rest = record { known = true; key = key; rest = rest }

-- a record that passed
abbrev pub good : ℕ → ℕ → WearNumbers → Recorded
good key rest w = record { fault = false; state = state_in (state_of key rest w) }

-- a record passes: the state that it leaves, whatever the counts, and the bytes
abbrev pub Passes : DeviceNumbers → RecordNumbers → List ℕ → ℕ → ℕ → ℕ → ℕ → List ℕ → Type 0
Passes d r xs key rest key2 rest2 ys =
    (w : WearNumbers) → (good key2 rest2 w ≡ recorded_of (device_in d) (state_in (state_of key rest w)) (record_in r) xs)
    × (ys ≡ bytes_recorded (device_in d) (state_in (state_of key rest w)) (record_in r) xs)

-- what a step leaves, at fault or not
abbrev pub stepped_to : Stepped → Recorded
stepped_to q = record { fault = q.fault; state = state_in (state_of q.key q.rest q.wear) }

-- a record with good levels, RP# up, at an address inside, on bytes of the device's own number
pub record Usual (d : DeviceNumbers) (r : RecordNumbers) (xs : List ℕ) : Type 0 where
  pub level : fair_level_in r.bus.rp r.bus.oe r.bus.wp r.bus.vpp ≡ true
  pub up : eqb r.bus.rp 0 ≡ false
  pub timed : timed_in d ≡ true
  pub inside : r.bus.address < units_for d.number d.word (length xs)
  pub bytes : Bytes xs

-- the first number of a state at rest
abbrev pub Calm : ℕ → Type 0
Calm key = (key % 2048 ≤ 2) × (key / 16384 ≡ 2)

-- .. of one that awaits data
abbrev pub Awaits : ℕ → Type 0
Awaits key = (key % 2048 ≡ 1) × (key / 16384 ≡ 10)

-- a read of a program that is running, its data seen, with VPP not low
pub record Polls (d : DeviceNumbers) (r : RecordNumbers) (key : ℕ) : Type 0 where
  pub low : key % 2048 ≡ 1
  pub phase : key / 16384 ≡ 12
  pub kind : r.bus.kind ≡ 0
  pub seen : r.seen ≡ 1
  pub supplied : (11400 ≤ r.bus.vpp → ⊥) → (4500 ≤ r.bus.vpp) × (5 ≤ d.number)

-- a cycle while an erase is suspended, with VPP not low
pub record Holds (d : DeviceNumbers) (r : RecordNumbers) (key rest : ℕ) : Type 0 where
  pub low : key % 2048 ≤ 1
  pub phase : key / 16384 ≡ 23
  pub more : 0 < rest % 65536
  pub unit : rest / 65536 % 65536 ≡ 0
  pub supplied : (11400 ≤ r.bus.vpp → ⊥) → (4500 ≤ r.bus.vpp) × (5 ≤ d.number)

-- a cycle while an erase is running that has more than this cycle to go, with VPP not low
pub record Erases (d : DeviceNumbers) (r : RecordNumbers) (key rest : ℕ) : Type 0 where
  pub low : key % 2048 ≡ 1
  pub phase : key / 16384 ≡ 16
  pub more : 1 < rest % 65536
  pub unit : rest / 65536 % 65536 ≡ 0
  pub supplied : (11400 ≤ r.bus.vpp → ⊥) → (4500 ≤ r.bus.vpp) × (5 ≤ d.number)
