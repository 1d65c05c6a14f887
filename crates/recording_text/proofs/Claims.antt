-- What is claimed of recordings as texts, in one place.
use mathlib.Core.Path.{◌≡◌}
use mathlib.Core.List.{List}
use Prim.Native.Nat.{ℕ, ◌≤◌}
use lib.ListN.{length}
use Rattle.model_states.specs.States.{fresh_state}
use Rattle.recording.specs.declared.Noted.{Noted}
use Rattle.recording_walk.specs.Lists.{checked_of}
use Rattle.trace_replay.specs.Replays.{bench_t}
use Rattle.recording_text.specs.Texts.{records_of, judged_of}
use Rattle.recording_text.specs.Written.{text_of, AllFit}
use Rattle.recording_text.proofs.Written as written

-- Records that fit lines, at most 9,998 of them, written as a text are read back as those records ..
pub read_back : (rs : List Noted) → AllFit rs → length rs ≤ 9998 → records_of (text_of rs) ≡ rs
read_back = written.read_back 9998

-- .. and the text is judged as they are: no bad line, and the check's own answer to the records.
pub judged_as : (rs : List Noted) (promised bytes : List ℕ) → AllFit rs → length rs ≤ 9998
    → judged_of (text_of rs) promised bytes ≡ record { lines = length rs; bad = 0; checked = checked_of bench_t fresh_state rs promised bytes }
judged_as = written.judged_as
