-- A trace recorded: for each good line its line of a recording, and what is to be said of them.
use Rattle.std.specs.Prelude.{Bool, true, not, List, [], ◌∷◌, ◌++◌, ℕ, zero, suc, ◌+◌, ◌*◌, eqb, ltb, length, take, drop, if◌then◌else◌}
use Rattle.device.specs.declared.Device.{Device}
use Rattle.model_types.specs.declared.Cycle.{Cycle}
use Rattle.model_types.specs.declared.Phase.{Phase}
use Rattle.model_types.specs.declared.Phase.TheVariants.{Free, EraseAwaited, DataAwaited, Programming, Erasing, Suspending, Suspended}
use Rattle.model_types.specs.declared.State.{State}
use Rattle.model_types.specs.Phases.{is_free}
use Rattle.model_states.specs.States.{fresh_state}
use Rattle.model.specs.declared.Answer.{Answer}
use Rattle.model.specs.declared.Seen.{Seen}
use Rattle.model.specs.declared.Seen.TheVariants.{NoData, Data, Refused}
use Rattle.text.specs.Digits.{decimal_of}
use Rattle.text.specs.Writing.{bytes}
use Rattle.trace_lines.specs.Lines.{cycle_stated}
use Rattle.trace_replay.specs.Answers.{answer_text}
use Rattle.trace_replay.specs.Replays.{bench_t, line_step, array_by, good_lines, arrays_of}
use Rattle.recording.specs.Recordings.{starts, cuts_off}
use Rattle.recording_lines.specs.Records.{count_text}
use Rattle.recording_replay.specs.declared.Log.{Log}
use Rattle.recording_replay.specs.declared.Made.{Made}

-- the busy count of what is awaited: E of an erase, P of a program
abbrev pub time_awaited : Device → Phase → ℕ
time_awaited d Free = 0
time_awaited d EraseAwaited = d.erase
time_awaited d DataAwaited = d.program
time_awaited d (Programming x) = 0
time_awaited d Erasing = 0
time_awaited d (Suspending n) = 0
time_awaited d Suspended = 0

-- the busy count of a cycle: that of what it starts, or none, which is 0
unfoldable pub busy_of : Device → State → Cycle → ℕ
busy_of d s c = if starts d.part s c then time_awaited d s.phase else 0

-- the number of a refusal, 0 where an answer is none
abbrev pub refusal_number : Seen → ℕ
refusal_number NoData = 0
refusal_number (Data v) = 0
refusal_number (Refused n) = n

-- the first line that something is true of: that of before, or this one; 0 where there is none
unfoldable pub first_line : ℕ → Bool → ℕ → ℕ
first_line at hit n =
    if ltb 0 at then at
    else if hit then n
    else 0

-- the first number that is not 0: that of before, or this one
unfoldable pub first_number : ℕ → ℕ → ℕ
first_number number here = if ltb 0 number then number else here

-- what is known after line n, a cycle with its answer
abbrev pub log_by : Device → Log → ℕ → Cycle → Answer → Log
log_by d l n c a = record {
  state = a.state;
  refused = first_line l.refused (not (eqb (refusal_number a.seen) 0)) n;
  number = first_number l.number (refusal_number a.seen);
  cut = first_line l.cut (cuts_off d.part l.state c) n;
}

-- an answer as a line of a recording has it, behind a space: the first four characters of an answer line
abbrev pub answer_for : Seen → List ℕ
answer_for seen = (32 ∷ []) ++ take 4 (answer_text seen 0)

-- a busy count as a line of a recording has it
abbrev pub count_for : ℕ → List ℕ
count_for n = count_text (not (eqb n 0)) n

-- the line of a recording from a trace line: that line without its newline, the answer, the busy count
abbrev pub line_for : List ℕ → Seen → ℕ → List ℕ
line_for line seen busy = (take 19 line ++ answer_for seen) ++ count_for busy

-- the lines of a recording for the first k lines of a trace, from a state and an array
unfoldable pub lines_from : ℕ → State → List ℕ → List ℕ → List ℕ → List ℕ
lines_from zero s xs rs text = []
lines_from (suc k) s xs rs text =
    line_for (take 20 text) (line_step s (cycle_stated (take 20 text)) xs rs).seen (busy_of bench_t s (cycle_stated (take 20 text)))
    ++ lines_from k (line_step s (cycle_stated (take 20 text)) xs rs).state (array_by s (cycle_stated (take 20 text)) xs rs) rs
    (drop 20 text)

-- what is known after them, line n the first
unfoldable pub log_from : ℕ → ℕ → Log → List ℕ → List ℕ → List ℕ → Log
log_from zero n l xs rs text = l
log_from (suc k) n l xs rs text =
    log_from k (suc n) (log_by bench_t l n (cycle_stated (take 20 text)) (line_step l.state (cycle_stated (take 20 text)) xs rs))
    (array_by l.state (cycle_stated (take 20 text)) xs rs) rs (drop 20 text)

-- before the first line: a fresh device
abbrev pub no_log : Log
no_log = record { state = fresh_state; refused = 0; number = 0; cut = 0 }

-- the first bad line behind g good ones of a text of so many bytes; 0 where no byte is left over
unfoldable pub bad_behind : ℕ → ℕ → ℕ
bad_behind g size = if ltb (20 * g) size then g + 1 else 0

-- how many bytes of a recording there are: none where a cycle is refused or a line is bad
unfoldable pub used_for : ℕ → ℕ → ℕ → ℕ
used_for number bad g =
    if ltb 0 number then 0
    else if ltb 0 bad then 0
    else 31 * g

-- how the recording of g good lines went, with what is known after them
abbrev pub made_from : ℕ → ℕ → Log → Made
made_from g bad l =
    record {
      number = l.number;
      line = l.refused;
      bad = bad;
      cut = l.cut;
      idle = is_free l.state.phase;
      used = used_for l.number bad g;
    }

-- the room is too short for a line for each good line
abbrev pub no_room : Made
no_room = record { number = 37; line = 0; bad = 0; cut = 0; idle = true; used = 0 }

-- how the recording of a whole trace goes, from a fresh device, line 9999 never read
unfoldable pub trace_made : ℕ → List ℕ → List ℕ → List ℕ → Made
trace_made room xs rs text =
    let g : ℕ = good_lines 9998 text in
    if ltb room (31 * g) then no_room else made_from g (bad_behind g (length text)) (log_from g 1 no_log xs rs text)

-- the array that it leaves
unfoldable pub array_made : ℕ → List ℕ → List ℕ → List ℕ → List ℕ
array_made room xs rs text = if ltb room (31 * good_lines 9998 text) then xs else arrays_of (good_lines 9998 text) fresh_state xs rs text

-- what the lent room holds: the lines in front
unfoldable pub out_made : List ℕ → List ℕ → List ℕ → List ℕ → List ℕ
out_made out xs rs text =
    let g : ℕ = good_lines 9998 text in
    if ltb (length out) (31 * g) then out else lines_from g fresh_state xs rs text ++ drop (31 * g) out

-- a note about a line
abbrev pub line_note : ℕ → List ℕ → List ℕ
line_note n words = (bytes "line " ++ decimal_of n) ++ words

-- a refused cycle is no answer of a device
abbrev pub refused_note : ℕ → ℕ → List ℕ
refused_note line number =
    (line_note line (bytes ": the cycle is refused by ") ++ decimal_of number)
    ++ bytes ", which is no answer of a device: there is no recording\n"

-- what is to be said: why there is no recording, or why the check of recordings does not accept it; else nothing
unfoldable pub note_of : Made → List ℕ
note_of m =
    if eqb m.number 37 then bytes "refused 37: the room for the recording is too short\n"
    else if ltb 0 m.number then refused_note m.line m.number
    else if ltb 0 m.bad then line_note m.bad (bytes " is no line of a trace: there is no recording\n")
    else if ltb 0 m.cut then line_note m.cut (bytes " cuts an operation: the check does not accept this recording\n")
    else if m.idle then []
    else bytes "the end is not idle: the check does not accept this recording\n"
