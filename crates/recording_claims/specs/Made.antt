-- What the model records of its own cycles: each cycle with the answer that the host sees, and at a start the busy time that it uses.
use Rattle.std.specs.Prelude.{Bool, true, not, ◌&&◌, List, [], ◌∷◌, ℕ, length, Option, Some, None}
use Rattle.units.specs.Units.{units, lent}
use Rattle.device.specs.declared.Device.{Device}
use Rattle.model_types.specs.declared.Decision.{Decision}
use Rattle.model_types.specs.declared.Phase.{Phase}
use Rattle.model_types.specs.declared.Phase.TheVariants.{Free, EraseAwaited, DataAwaited, Programming, Erasing, Suspending, Suspended}
use Rattle.model_rules.specs.Cycles.{decide_of}
use Rattle.model.specs.declared.Answer.{Answer}
use Rattle.model.specs.declared.Seen.{Seen}
use Rattle.model.specs.declared.Seen.TheVariants.{NoData, Data, Refused}
use Rattle.model.specs.Arrays.{is_refusal, answer_of, bytes_after}
use Rattle.model_history.specs.History.{Bus, is_cut}
use Rattle.recording.specs.declared.Noted.{Noted}
use Rattle.recording_walk.specs.Lists.{Held, held_of}

-- the model's decision on a cycle and its residue, on lent bytes
abbrev pub decided_on : Device → Held → Bus → Decision
decided_on d v b = decide_of d v.state b.cycle (length (lent d.part.word v.bytes)) (length (units d.part.word b.residue))

-- .. and its answer
abbrev pub answered_on : Device → Held → Bus → Answer
answered_on d v b = answer_of d v.state b.cycle (lent d.part.word v.bytes) (units d.part.word b.residue)

-- what is left by one cycle, and by cycles
abbrev pub made_one : Device → Held → Bus → Held
made_one d v b = held_of (answered_on d v b).state (bytes_after d v.state b.cycle v.bytes b.residue)

-- .. what is left by cycles, one after the other
abbrev pub made_by : Device → Held → List Bus → Held
made_by d v [] = v
made_by d v (b ∷ bs) = made_by d (made_one d v b) bs

-- no cycle is refused, and none cuts an operation
abbrev pub smoothly : Device → Held → List Bus → Bool
smoothly d v [] = true
smoothly d v (b ∷ bs) =
    (not (is_refusal (decided_on d v b).reply) && not (is_cut (decided_on d v b).effect)) && smoothly d (made_one d v b) bs

-- an answer as it is noted down
abbrev pub heard_of : Seen → Option ℕ
heard_of NoData = None
heard_of (Data x) = Some x
heard_of (Refused m) = None

-- the busy time that a confirm or data would use: E or P
abbrev pub time_used : Device → Phase → ℕ
time_used d Free = 0
time_used d EraseAwaited = d.erase
time_used d DataAwaited = d.program
time_used d (Programming x) = 0
time_used d Erasing = 0
time_used d (Suspending n) = 0
time_used d Suspended = 0

-- the record of a cycle, and the recording of cycles (R-recording-3)
abbrev pub record_of : Device → Held → Bus → Noted
record_of d v b = record { cycle = b.cycle; heard = heard_of (answered_on d v b).seen; busy = time_used d v.state.phase }

-- the recording of cycles
abbrev pub records_of : Device → Held → List Bus → List Noted
records_of d v [] = []
records_of d v (b ∷ bs) = record_of d v b ∷ records_of d (made_one d v b) bs
