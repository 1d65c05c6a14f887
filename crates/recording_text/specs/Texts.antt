-- A recording as a text: the records that its good lines state, its first bad line, and how it is judged on bench T.
use Rattle.std.specs.Prelude.{List, [], ◌∷◌, ℕ, zero, suc, ◌+◌, ◌*◌, ltb, length, take, drop, if◌then◌else◌}
use Rattle.model_states.specs.States.{fresh_state}
use Rattle.recording.specs.declared.Noted.{Noted}
use Rattle.recording_lines.specs.Records.{is_record, record_stated}
use Rattle.recording_walk.specs.Lists.{checked_of, bytes_checked}
use Rattle.trace_replay.specs.Replays.{bench_t}
use Rattle.recording_text.specs.declared.Judged.{Judged}

-- the records that the good lines state, k lines at most
unfoldable pub records_in : ℕ → List ℕ → List Noted
records_in zero text = []
records_in (suc k) text = if is_record (take 31 text) then record_stated (take 31 text) ∷ records_in k (drop 31 text) else []

-- of a whole text: line 9999 is never read
abbrev pub records_of : List ℕ → List Noted
records_of text = records_in 9998 text

-- the first bad line behind n good ones of a text of so many bytes; 0 where no byte is left over
unfoldable pub bad_after : ℕ → ℕ → ℕ
bad_after n size = if ltb (31 * n) size then n + 1 else 0

-- a text judged on bench T, fresh: the good lines, the first bad line or 0, and the check of the records that the good lines state
unfoldable pub judged_of : List ℕ → List ℕ → List ℕ → Judged
judged_of text promised bytes = record {
  lines = length (records_of text);
  bad = bad_after (length (records_of text)) (length text);
  checked = checked_of bench_t fresh_state (records_of text) promised bytes;
}

-- the array that it leaves: as the records before the first at fault leave it
unfoldable pub array_judged : List ℕ → List ℕ → List ℕ
array_judged text bytes = bytes_checked bench_t fresh_state (records_of text) bytes
