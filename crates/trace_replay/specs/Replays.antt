-- A whole trace replayed: its output, the array that it leaves, and both where the room is too short.
use Rattle.std.specs.Prelude.{false, ◌≡◌, List, [], ◌++◌, ℕ, zero, suc, ◌≤◌, ltb, length, take, drop, if◌then◌else◌}
use Rattle.device.specs.declared.Device.{Device}
use Rattle.model_types.specs.declared.State.{State}
use Rattle.model_types.specs.declared.Cycle.{Cycle}
use Rattle.model_states.specs.States.{fresh_state, improper}
use Rattle.model.specs.declared.Answer.{Answer}
use Rattle.model.specs.Arrays.{answer_of, cycle_told, array_after}
use Rattle.trace_lines.specs.Lines.{is_line, cycle_stated}
use Rattle.trace_replay.specs.Answers.{printed_of, trace_end}
use Rattle.trace_replay.specs.declared.Replayed.{Replayed}

-- bench T: device 3, a program busy for 2 cycles, an erase for 3, a suspend for 1 (R-trace-1)
abbrev pub bench_t : Device
bench_t = record { part = record { number = 3; word = false }; program = 2; erase = 3; suspend = 1 }

-- the bench is sound: its state is proper, its array has the part's length
pub record BenchSound (s : State) (xs : List ℕ) : Type 0 where
  pub proper : improper bench_t s ≡ false
  pub sized : length xs ≡ 16384

-- one line's step on bench T: the answer, and the array after it
unfoldable pub line_step : State → Cycle → List ℕ → List ℕ → Answer
line_step s c xs rs = answer_of bench_t s c xs rs

-- what it tells
unfoldable pub step_told : State → Cycle → List ℕ → List ℕ → ℕ × List ℕ
step_told s c xs rs = cycle_told bench_t s c xs rs

-- .. the array after it
unfoldable pub array_by : State → Cycle → List ℕ → List ℕ → List ℕ
array_by s c xs rs = array_after bench_t s c xs rs

-- how many good lines come first, k at most
unfoldable pub good_lines : ℕ → List ℕ → ℕ
good_lines zero text = 0
good_lines (suc k) text = if is_line (take 20 text) then suc (good_lines k (drop 20 text)) else 0

-- the answers to the first k lines, from a state and an array, and the array that they leave
unfoldable pub answers_of : ℕ → State → List ℕ → List ℕ → List ℕ → List ℕ
answers_of zero s xs rs text = []
answers_of (suc k) s xs rs text =
    printed_of (line_step s (cycle_stated (take 20 text)) xs rs)
    ++ answers_of k (line_step s (cycle_stated (take 20 text)) xs rs).state (array_by s (cycle_stated (take 20 text)) xs rs) rs
    (drop 20 text)

-- .. the array that the first k lines leave
unfoldable pub arrays_of : ℕ → State → List ℕ → List ℕ → List ℕ → List ℕ
arrays_of zero s xs rs text = xs
arrays_of (suc k) s xs rs text =
    arrays_of k (line_step s (cycle_stated (take 20 text)) xs rs).state (array_by s (cycle_stated (take 20 text)) xs rs) rs (drop 20 text)

-- the output from line n on, k lines before the last that may be answered: a good line is answered and the rest replayed;
-- where there is none, or k is used up, the trace ends
unfoldable pub output_from : ℕ → ℕ → State → List ℕ → List ℕ → List ℕ → List ℕ
output_from zero n s xs rs text = trace_end n (length text)
output_from (suc k) n s xs rs text =
    if is_line (take 20 text)
    then printed_of (line_step s (cycle_stated (take 20 text)) xs rs)
    ++ output_from k (suc n) (line_step s (cycle_stated (take 20 text)) xs rs).state (array_by s (cycle_stated (take 20 text)) xs rs) rs
    (drop 20 text)
    else trace_end n (length text)

-- the array that the same walk leaves
unfoldable pub array_from : ℕ → State → List ℕ → List ℕ → List ℕ → List ℕ
array_from zero s xs rs text = xs
array_from (suc k) s xs rs text =
    if is_line (take 20 text)
    then array_from k (line_step s (cycle_stated (take 20 text)) xs rs).state (array_by s (cycle_stated (take 20 text)) xs rs) rs
    (drop 20 text)
    else xs

-- a whole trace: a fresh device, lines counted from 1, line 9999 never answered (R-trace-3)
unfoldable pub output_of : List ℕ → List ℕ → List ℕ → List ℕ
output_of xs rs text = output_from 9998 1 fresh_state xs rs text

-- .. the array that a whole trace leaves
unfoldable pub array_left : List ℕ → List ℕ → List ℕ → List ℕ
array_left xs rs text = array_from 9998 fresh_state xs rs text

-- 37 where the room is too short for the output; else nothing is refused, and as many bytes are used as the output has
abbrev pub replayed_as : ℕ → ℕ → Replayed
replayed_as n m = record { number = n; used = m }

-- what is returned of an output in so much room
unfoldable pub replayed_in : ℕ → List ℕ → Replayed
replayed_in room ys = if ltb room (length ys) then replayed_as 37 0 else replayed_as 0 (length ys)

-- what a lent slice holds at the end: with too little room for the output it is untouched
unfoldable pub left_in_room : ℕ → List ℕ → List ℕ → List ℕ → List ℕ
left_in_room room ys before after = if ltb room (length ys) then before else after

-- n bytes of a slice are used, and there are that many
abbrev pub Used : ℕ → List ℕ → Type 0
Used n out = (n ≤ length out) × (n ≡ length (take n out))
