-- What is claimed of recordings as numbers, in one place.
use mathlib.Core.Path.{◌≡◌}
use mathlib.Core.Bool.{true}
use mathlib.Core.List.{List}
use Prim.Native.Nat.{ℕ}
use lib.Dec.{ltb}
use lib.ListN.{length}
use Rattle.device.specs.declared.Device.{Device}
use Rattle.model_types.specs.declared.State.{State}
use Rattle.recording.specs.declared.Noted.{Noted}
use Rattle.recording.specs.Recordings.{faulty}
use Rattle.recording_walk.specs.Lists.{start_number, checked_of, bytes_checked}
use Rattle.c_cycle.specs.declared.DeviceNumbers.{DeviceNumbers}
use Rattle.c_cycle.specs.declared.StateNumbers.{StateNumbers}
use Rattle.c_cycle.specs.Values.{device_in, device_out, state_in, state_out}
use Rattle.c_recording.specs.declared.RecordNumbers.{RecordNumbers}
use Rattle.c_recording.specs.Records.{record_in, record_out, records_out, checked_numbers, checked_returned, array_checked}
use Rattle.c_recording.proofs.Border as border

-- There and back: every record has numbers, and these numbers stand for it.
pub record_back : (r : Noted) → record_in (record_out r) ≡ r
record_back = border.record_back

-- A record whose answer seen is neither none nor data is at fault on every device, in every state, on every array.
pub no_answer_faulty : (n : RecordNumbers) → ltb 1 n.seen ≡ true → (d : Device) (s : State) (bytes : List ℕ) → faulty d s (record_in n) bytes ≡ true
no_answer_faulty = border.no_answer_faulty

-- Refused by a number, nothing is accepted, the state goes back as the numbers that came, all of them, and the array is as it was.
pub recording_refused : (d : DeviceNumbers) (s : StateNumbers) (ns : List RecordNumbers) (promised bytes : List ℕ)
    → (start_number (device_in d) (state_in s) (length bytes) ≡ 0 → ⊥)
    → (checked_returned d s ns promised bytes ≡ record { refusal = start_number (device_in d) (state_in s) (length bytes); accepted = 0; at = 0; state = s })
    × (array_checked d s ns bytes ≡ bytes)
recording_refused = border.recording_refused

-- For the numbers of a device, a state and records the C function gives the numbers of the check's answer, and leaves the bytes that the
-- check leaves.
pub recording_typed : (d : Device) (s : State) (rs : List Noted) (promised bytes : List ℕ)
    → (checked_returned (device_out d) (state_out s) (records_out rs) promised bytes ≡ checked_numbers (checked_of d s rs promised bytes))
    × (array_checked (device_out d) (state_out s) (records_out rs) bytes ≡ bytes_checked d s rs bytes)
recording_typed = border.recording_typed
