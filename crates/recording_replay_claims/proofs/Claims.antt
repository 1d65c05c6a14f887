-- What is claimed of a trace recorded, in one place.
use mathlib.Core.Path.{◌≡◌}
use mathlib.Core.Bool.{true}
use mathlib.Core.List.{List}
use mathlib.Core.Logic.{◌↔◌}
use Prim.Native.Nat.{ℕ, ◌*◌}
use lib.ListN.{length, take}
use Rattle.common.specs.Lists.{Bytes}
use Rattle.model_states.specs.States.{fresh_state}
use Rattle.trace_replay.specs.Replays.{good_lines}
use Rattle.recording_text.specs.Texts.{judged_of}
use Rattle.recording_text.specs.Written.{text_of}
use Rattle.recording_replay.specs.Recorded.{trace_made, array_made, out_made}
use Rattle.recording_replay_claims.specs.Kept.{records_for}
use Rattle.recording_replay_claims.proofs.WholeTrace as whole

-- What is written is exactly the lines of what the model records, a line for each line of the trace and nothing else: where no cycle is
-- refused and no line is bad.
pub recorded_exactly : (out xs rs text : List ℕ) → (trace_made (length out) xs rs text).number ≡ 0 → (trace_made (length out) xs rs text).bad ≡ 0
    → (take (trace_made (length out) xs rs text).used (out_made out xs rs text) ≡ text_of (records_for (good_lines 9998 text) fresh_state xs rs text))
    × (20 * good_lines 9998 text ≡ length text)
recorded_exactly = whole.written

-- Nothing is written where a cycle is refused or a line is bad.
pub unrecorded : (room : ℕ) (xs rs text : List ℕ) → (((trace_made room xs rs text).number ≡ 0) × ((trace_made room xs rs text).bad ≡ 0) → ⊥) → (trace_made room xs rs text).used ≡ 0
unrecorded = whole.none_written

-- The text of what the model records of a trace, none of its cycles refused, is judged with no bad line, and is accepted with the model's
-- own array promised exactly where no line cuts an operation and the end is idle. (xs and rs are the bytes of the array and the residue.)
pub recorded_accepted : (room : ℕ) (xs rs text : List ℕ) → length xs ≡ 16384 → Bytes xs → Bytes rs → (trace_made room xs rs text).number ≡ 0
    → ((judged_of (text_of (records_for (good_lines 9998 text) fresh_state xs rs text)) (array_made room xs rs text) xs).bad ≡ 0)
    × (((judged_of (text_of (records_for (good_lines 9998 text) fresh_state xs rs text)) (array_made room xs rs text) xs).checked.accepted ≡ true)
    ↔ (((trace_made room xs rs text).cut ≡ 0) × ((trace_made room xs rs text).idle ≡ true)))
recorded_accepted = whole.accepted
