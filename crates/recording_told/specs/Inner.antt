-- How the code tells it: by the judgement of the whole text, and the record of a line read once more. Not part of what a buyer must
-- believe.
use Rattle.std.specs.Prelude.{List, ℕ, ◌+◌, ◌*◌, eqb, ltb, take, drop, if◌then◌else◌}
use Rattle.model_types.specs.declared.State.{State}
use Rattle.recording.specs.declared.Noted.{Noted}
use Rattle.recording.specs.Recordings.{why_of}
use Rattle.recording_lines.specs.Records.{record_stated}
use Rattle.trace_replay.specs.Replays.{bench_t}
use Rattle.recording_text.specs.declared.Judged.{Judged}
use Rattle.recording_answer.specs.Lines.{fault_line}
use Rattle.recording_told.specs.Tellings.{start_refused, later_text}

-- the record of the line behind the first i
abbrev pub stated_at : List ℕ → ℕ → Noted
stated_at text i = record_stated (take 31 (drop (31 * i) text))

-- that record at fault
unfoldable pub fault_at : List ℕ → ℕ → State → List ℕ → List ℕ
fault_at text i s xs = fault_line (i + 1) (stated_at text i).heard (why_of bench_t s (stated_at text i) xs)

-- by the judgement, and the array that it leaves
unfoldable pub said_of : List ℕ → Judged → List ℕ → List ℕ → List ℕ
said_of text j promised xs =
    if eqb j.checked.number 0 then
    (if ltb j.checked.at j.lines then fault_at text j.checked.at j.checked.state xs
    else later_text j.bad j.lines j.checked.accepted j.checked.state.phase promised xs)
    else start_refused j.checked.number
