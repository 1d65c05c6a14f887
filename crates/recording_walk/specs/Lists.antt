-- A recording, a list of records: where the records lead, the first at fault, and what the check of it answers.
use Rattle.std.specs.Prelude.{Bool, true, false, not, ◌&&◌, List, [], ◌∷◌, ℕ, suc, eqb, length, take, if◌then◌else◌}
use Rattle.common.specs.Numbers.{Row, row, given}
use Rattle.units.specs.Units.{lent_in}
use Rattle.device.specs.declared.Device.{Device}
use Rattle.device.specs.Parts.{unknown_device, size_of}
use Rattle.model_types.specs.declared.State.{State}
use Rattle.model_types.specs.Phases.{is_free, under_way}
use Rattle.model_states.specs.States.{improper}
use Rattle.model.specs.Arrays.{bytes_after}
use Rattle.recording.specs.declared.Noted.{Noted}
use Rattle.recording.specs.Recordings.{device_for, answer_to, faulty}
use Rattle.recording_walk.specs.declared.Checked.{Checked}

-- a device between two records: its state and the lent bytes
pub record Held : Type 0 where
  pub state : State
  pub bytes : List ℕ

-- .. by its two parts
abbrev pub held_of : State → List ℕ → Held
held_of s xs = record { state = s; bytes = xs }

-- after one record more, by the model's own rules
abbrev pub onward : Device → Held → Noted → Held
onward d v r =
    held_of (answer_to d v.state r v.bytes).state (bytes_after (device_for d v.state r) v.state r.cycle v.bytes [])

-- where records lead
abbrev pub left_by : Device → Held → List Noted → Held
left_by d v [] = v
left_by d v (r ∷ rs) = left_by d (onward d v r) rs

-- how many records pass before one is at fault; all of them where none is
abbrev pub passed_by : Device → Held → List Noted → ℕ
passed_by d v [] = 0
passed_by d v (r ∷ rs) = if faulty d v.state r v.bytes then 0 else suc (passed_by d (onward d v r) rs)

-- two lists of bytes are the same, of the same length too
abbrev pub same_bytes : List ℕ → List ℕ → Bool
same_bytes [] [] = true
same_bytes [] (y ∷ ys) = false
same_bytes (x ∷ xs) [] = false
same_bytes (x ∷ xs) (y ∷ ys) = eqb x y && same_bytes xs ys

-- the end is as it must be: nothing awaited, running or suspended, and the array is the one promised (R-recording-2)
unfoldable pub ends_well : Held → List ℕ → Bool
ends_well v promised = is_free v.state.phase && same_bytes promised v.bytes

-- the refusals before the list, on an array of so many bytes (R-recording-3, R-number-12)
abbrev pub start_rows : Device → State → ℕ → List Row
start_rows d s n =
    row 1 (unknown_device d)
    ∷ row 2 (not (eqb (lent_in d.part.word n) (size_of d.part)))
    ∷ row 3 (improper d s)
    ∷ row 12 (under_way s.phase)
    ∷ []

-- the number of the first that applies, 0 where none does
unfoldable pub start_number : Device → State → ℕ → ℕ
start_number d s n = given (start_rows d s n)

-- the check's answer: refused by a number; or the records that passed before the first at fault, accepted where all of them did and the
-- end is as it must be; and the state that the records before it leave (R-recording-2)
unfoldable pub checked_of : Device → State → List Noted → List ℕ → List ℕ → Checked
checked_of d s rs promised bytes =
    let v : Held = held_of s bytes in
    let n : ℕ = start_number d s (length bytes) in
    let i : ℕ = passed_by d v rs in
    if eqb n 0 then record {
      number = 0;
      accepted = eqb i (length rs) && ends_well (left_by d v rs) promised;
      at = i;
      state = (left_by d v (take i rs)).state;
    }
    else record { number = n; accepted = false; at = 0; state = s }

-- the lent bytes after the check: as the records before the first at fault leave them (R-recording-3)
unfoldable pub bytes_checked : Device → State → List Noted → List ℕ → List ℕ
bytes_checked d s rs bytes =
    let v : Held = held_of s bytes in
    if eqb (start_number d s (length bytes)) 0 then (left_by d v (take (passed_by d v rs) rs)).bytes else bytes
