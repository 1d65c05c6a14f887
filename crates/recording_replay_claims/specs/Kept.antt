-- What the model records of the lines of a trace: each cycle with the answer that it gives and, at a start, the busy count that it takes.
use Rattle.std.specs.Prelude.{List, [], ◌∷◌, ℕ, zero, suc, take, drop}
use Rattle.model_types.specs.declared.Cycle.{Cycle}
use Rattle.model_types.specs.declared.State.{State}
use Rattle.trace_lines.specs.Lines.{cycle_stated}
use Rattle.trace_replay.specs.Replays.{bench_t, line_step, array_by}
use Rattle.recording.specs.declared.Noted.{Noted}
use Rattle.recording_claims.specs.Made.{heard_of}
use Rattle.recording_replay.specs.Recorded.{busy_of}

-- the record of one cycle on bench T
abbrev pub record_for : State → Cycle → List ℕ → List ℕ → Noted
record_for s c xs rs = record { cycle = c; heard = heard_of (line_step s c xs rs).seen; busy = busy_of bench_t s c }

-- the records of the first k lines of a trace, from a state and an array
abbrev pub records_for : ℕ → State → List ℕ → List ℕ → List ℕ → List Noted
records_for zero s xs rs text = []
records_for (suc k) s xs rs text =
    record_for s (cycle_stated (take 20 text)) xs rs
    ∷ records_for k (line_step s (cycle_stated (take 20 text)) xs rs).state (array_by s (cycle_stated (take 20 text)) xs rs) rs
    (drop 20 text)
