-- Two results that a promise of this crate allows are equal, and so is what it leaves in each thing lent.
use mathlib.Core.Path.{◌≡◌}
use mathlib.Core.List.{List}
use Prim.Native.Nat.{ℕ}
use lib.ListN.{length}
use Rattle.common.specs.Choice.{Unique}
use Rattle.common.proofs.Choice.{only}
use Rattle.common.specs.Lists.{copied}
use Rattle.device.specs.declared.Device.{Device}
use Rattle.model_types.specs.declared.State.{State}
use Rattle.model_types.specs.declared.Cycle.{Cycle}
use Rattle.model.specs.declared.Answer.{Answer}
use Rattle.model.specs.declared.Seen.{Seen}
use Rattle.trace_replay.specs.declared.Replayed.{Replayed}
use Rattle.trace_lines.specs.Lines.{cycle_stated}
use Rattle.trace_replay.specs.Answers.{answer_text, printed_of, mark_of, trace_end}
use Rattle.trace_replay.specs.Replays.{bench_t, line_step, step_told, array_by, good_lines, output_of, array_left, replayed_in, left_in_room}

pub bench_unique : Unique (λ (r : Device). r ≡ bench_t)
bench_unique = only bench_t

pub step_unique : (s : State) (c : Cycle) (xs rs : List ℕ) → Unique (λ (r : Answer). r ≡ line_step s c xs rs)
step_unique s c xs rs = only (line_step s c xs rs)

pub step_told_unique : (s : State) (c : Cycle) (xs rs : List ℕ) → Unique (λ (told : ℕ × List ℕ). told ≡ step_told s c xs rs)
step_told_unique s c xs rs = only (step_told s c xs rs)

pub step_array_unique : (s : State) (c : Cycle) (xs rs : List ℕ) → Unique (λ (left : List ℕ). left ≡ array_by s c xs rs)
step_array_unique s c xs rs = only (array_by s c xs rs)

pub answer_line_unique : (s : State) (line xs rs : List ℕ) → Unique (λ (r : State). r ≡ (line_step s (cycle_stated line) xs rs).state)
answer_line_unique s line xs rs = only (line_step s (cycle_stated line) xs rs).state

pub answer_line_array_unique : (s : State) (line xs rs : List ℕ) → Unique (λ (left : List ℕ). left ≡ array_by s (cycle_stated line) xs rs)
answer_line_array_unique s line xs rs = only (array_by s (cycle_stated line) xs rs)

pub answer_line_out_unique : (s : State) (line xs rs out : List ℕ) → Unique (λ (left : List ℕ). left ≡ copied out (printed_of (line_step s (cycle_stated line) xs rs)))
answer_line_out_unique s line xs rs out = only (copied out (printed_of (line_step s (cycle_stated line) xs rs)))

pub write_answer_unique : (seen : Seen) (sr : ℕ) (out : List ℕ) → Unique (λ (left : List ℕ). left ≡ copied out (answer_text seen sr))
write_answer_unique seen sr out = only (copied out (answer_text seen sr))

pub write_mark_unique : (n : ℕ) (out : List ℕ) → Unique (λ (left : List ℕ). left ≡ copied out (mark_of n))
write_mark_unique n out = only (copied out (mark_of n))

pub write_end_unique : (n over : ℕ) (out : List ℕ) → Unique (λ (left : List ℕ). left ≡ copied out (trace_end n over))
write_end_unique n over out = only (copied out (trace_end n over))

pub end_length_unique : (over : ℕ) → Unique (λ (r : ℕ). r ≡ length (trace_end 0 over))
end_length_unique over = only (length (trace_end 0 over))

pub good_lines_unique : (text : List ℕ) → Unique (λ (r : ℕ). r ≡ good_lines 9998 text)
good_lines_unique text = only (good_lines 9998 text)

pub replay_unique : (room : ℕ) (xs rs text : List ℕ) → Unique (λ (r : Replayed). r ≡ replayed_in room (output_of xs rs text))
replay_unique room xs rs text = only (replayed_in room (output_of xs rs text))

pub replay_array_unique : (room : ℕ) (xs rs text : List ℕ) → Unique (λ (left : List ℕ). left ≡ left_in_room room (output_of xs rs text) xs (array_left xs rs text))
replay_array_unique room xs rs text = only (left_in_room room (output_of xs rs text) xs (array_left xs rs text))

pub replay_out_unique : (xs rs text out : List ℕ)
    → Unique (λ (left : List ℕ). left ≡ left_in_room (length out) (output_of xs rs text) out (copied out (output_of xs rs text)))
replay_out_unique xs rs text out = only (left_in_room (length out) (output_of xs rs text) out (copied out (output_of xs rs text)))
