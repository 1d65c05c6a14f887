-- When a recording is to be accepted, and which record is the first at fault: predicates on the list, without the code.
use Rattle.std.specs.Prelude.{◌≡◌, true, false, List, ◌∷◌, ◌++◌, ℕ, length}
use Rattle.units.specs.Units.{lent_in}
use Rattle.device.specs.declared.Device.{Device}
use Rattle.device.specs.Parts.{unknown_device, size_of}
use Rattle.model_types.specs.declared.State.{State}
use Rattle.model_types.specs.Phases.{is_free}
use Rattle.model_states.specs.States.{improper}
use Rattle.recording.specs.declared.Noted.{Noted}
use Rattle.recording.specs.Recordings.{faulty}
use Rattle.recording_walk.specs.Lists.{Held, held_of, left_by}

-- each record is without fault in the world that the records before it leave
abbrev pub Faultless : Device → Held → List Noted → Type 0
Faultless d v rs =
    (before : List Noted) (r : Noted) (after : List Noted) → rs ≡ before ++ (r ∷ after)
    → faulty d (left_by d v before).state r (left_by d v before).bytes ≡ false

-- the end is as it must be: nothing awaited, running or suspended, and the array is the one promised
pub record Ends (v : Held) (promised : List ℕ) : Type 0 where
  pub idle : is_free v.state.phase ≡ true
  pub array : v.bytes ≡ promised

-- nothing refuses the start: the device is one, the array has its size, the state is proper and idle
pub record Startable (d : Device) (s : State) (bytes : List ℕ) : Type 0 where
  pub known : unknown_device d ≡ false
  pub sized : lent_in d.part.word (length bytes) ≡ size_of d.part
  pub proper : improper d s ≡ false
  pub idle : is_free s.phase ≡ true

-- a recording is to be accepted (R-recording-2)
pub record Accepts (d : Device) (s : State) (rs : List Noted) (promised bytes : List ℕ) : Type 0 where
  pub start : Startable d s bytes
  pub faultless : Faultless d (held_of s bytes) rs
  pub ends : Ends (left_by d (held_of s bytes) rs) promised

-- record i is the first at fault: those before it are without fault, and it is not (R-recording-2)
pub record FirstFault (d : Device) (v : Held) (rs : List Noted) (i : ℕ) : Type 0 where
  pub before : List Noted
  pub here : Noted
  pub after : List Noted
  pub list : rs ≡ before ++ (here ∷ after)
  pub place : length before ≡ i
  pub faultless : Faultless d v before
  pub at_fault : faulty d (left_by d v before).state here (left_by d v before).bytes ≡ true
