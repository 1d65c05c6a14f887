-- Recordings: one record judged in a world, without a list. The world is the device's state and the lent bytes.
use Rattle.std.specs.Prelude.{Bool, true, false, not, ◌&&◌, ◌||◌, List, [], ℕ, length, eqb, ltb, if◌then◌else◌, Option, Some, None}
use Rattle.units.specs.Units.{lent, lent_in}
use Rattle.device.specs.declared.Part.{Part}
use Rattle.device.specs.declared.Device.{Device}
use Rattle.model_types.specs.declared.Cycle.{Cycle}
use Rattle.model_types.specs.declared.Effect.{Effect}
use Rattle.model_types.specs.declared.Effect.TheVariants.{Nothing, Program, Erase, CutProgram, CutErase}
use Rattle.model_types.specs.declared.State.{State}
use Rattle.model_levels.specs.Levels.{rp_low, vpp_low}
use Rattle.model_types.specs.Phases.{is_pending}
use Rattle.model_judge.specs.Judging.{judge_of}
use Rattle.model.specs.declared.Seen.{Seen}
use Rattle.model.specs.declared.Seen.TheVariants.{NoData, Data, Refused}
use Rattle.model.specs.declared.Answer.{Answer}
use Rattle.model.specs.Arrays.{answer_of, bytes_after}
use Rattle.model.specs.Begun.{starts_of}
use Rattle.recording.specs.declared.Noted.{Noted}
use Rattle.recording.specs.declared.Recorded.{Recorded}
use Rattle.recording.specs.declared.Why.{Why}

-- an operation: something rather than nothing
abbrev pub is_operation : Effect → Bool
is_operation Nothing = false
is_operation (Program a b) = true
is_operation (Erase k) = true
is_operation (CutProgram a b) = true
is_operation (CutErase k) = true

-- a cycle starts an operation: a confirm or data that nothing bars (R-recording-1)
unfoldable pub starts : Part → State → Cycle → Bool
starts part s c = is_operation (starts_of part s c)

-- the longest busy time, 65,535
abbrev pub longest : ℕ
longest = 65535

-- a count that is not from 1 to the longest (R-recording-1)
unfoldable pub outside : ℕ → Bool
outside n = eqb n 0 || ltb longest n

-- a record's count is needed and wrong; at any other record none is read (R-recording-1)
unfoldable pub wrong_count : Part → State → Noted → Bool
wrong_count part s r = starts part s r.cycle && outside r.busy

-- a cycle cuts an operation that is running, being suspended or suspended (R-recording-2)
unfoldable pub cuts_off : Part → State → Cycle → Bool
cuts_off part s c = is_pending s.phase && (rp_low c.pins || vpp_low part c.pins)

-- a record's count where it is one
unfoldable pub count_of : ℕ → ℕ
count_of n = if outside n then longest else n

-- the busy time that a record's cycle is made with: its own count at a start; at any other record the longest that there is, so that
-- no time still to go is too long
unfoldable pub time_of : Part → State → Noted → ℕ
time_of part s r = if starts part s r.cycle then count_of r.busy else longest

-- a device whose programs and erases both take so long
abbrev pub timed : Device → ℕ → Device
timed d n = record { part = d.part; program = n; erase = n; suspend = d.suspend }

-- the device that a record's cycle is made on: of P and E it has nothing
abbrev pub device_for : Device → State → Noted → Device
device_for d s r = timed d (time_of d.part s r)

-- the answer given is the one seen, bit by bit; a refusal is no answer (R-recording-2)
abbrev pub agrees : Seen → Option ℕ → Bool
agrees NoData None = true
agrees NoData (Some w) = false
agrees (Data v) None = false
agrees (Data v) (Some w) = eqb v w
agrees (Refused m) h = false

-- the rules' answer to a record's cycle, with no residue: none is needed where nothing is cut
unfoldable pub answer_to : Device → State → Noted → List ℕ → Answer
answer_to d s r bytes = answer_of (device_for d s r) s r.cycle (lent d.part.word bytes) []

-- a record is at fault: its count is needed and wrong, it cuts an operation, or the rules refuse its cycle or answer otherwise
-- (R-recording-2)
unfoldable pub faulty : Device → State → Noted → List ℕ → Bool
faulty d s r bytes = (wrong_count d.part s r || cuts_off d.part s r.cycle) || not (agrees (answer_to d s r bytes).seen r.heard)

-- a record's verdict, and the state that it leaves: at fault, the state as it was
unfoldable pub recorded_of : Device → State → Noted → List ℕ → Recorded
recorded_of d s r bytes =
    if faulty d s r bytes then record { fault = true; state = s } else record { fault = false; state = (answer_to d s r bytes).state }

-- the lent bytes after it: at fault, as they were (R-recording-3)
unfoldable pub bytes_recorded : Device → State → Noted → List ℕ → List ℕ
bytes_recorded d s r bytes = if faulty d s r bytes then bytes else bytes_after (device_for d s r) s r.cycle bytes []

-- why a record is at fault, in two numbers: a kind and a value
abbrev pub why_as : ℕ → ℕ → Why
why_as kind value = record { kind = kind; value = value }

-- what the rules answer: 3 a refusal and its number, 4 no data, 5 data
abbrev pub why_seen : Seen → Why
why_seen NoData = why_as 4 0
why_seen (Data v) = why_as 5 v
why_seen (Refused m) = why_as 3 m

-- the first of refusals 1 to 6 that applies to a record's cycle, or 0
abbrev pub refusal_of : Device → State → Noted → List ℕ → ℕ
refusal_of d s r bytes = judge_of (device_for d s r) s r.cycle (lent_in d.part.word (length bytes)) 0

-- 2 an operation is cut; 3 the cycle is refused by one of 1 to 6, with the number: a cycle that is refused starts nothing, so its count is
-- not looked at; 1 the count is needed and wrong, with the count; else what the rules answer
unfoldable pub why_of : Device → State → Noted → List ℕ → Why
why_of d s r bytes =
    if cuts_off d.part s r.cycle then why_as 2 0
    else if not (eqb (refusal_of d s r bytes) 0) then why_as 3 (refusal_of d s r bytes)
    else if wrong_count d.part s r then why_as 1 r.busy
    else why_seen (answer_to d s r bytes).seen
