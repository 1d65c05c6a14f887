-- What is claimed of the replay of a trace, in one place.
use mathlib.Core.Path.{◌≡◌}
use mathlib.Core.Bool.{true, false}
use mathlib.Core.List.{List, [], ◌∷◌, ◌++◌}
use mathlib.Core.Logic.{◌↔◌}
use Prim.Native.Nat.{ℕ, suc, ◌+◌, ◌-◌, ◌*◌, ◌≤◌, ◌<◌}
use lib.ListN.{length, take, drop}
use Rattle.common.specs.Numbers.{Foremost, row, given}
use Rattle.model_types.specs.declared.State.{State}
use Rattle.model_types.specs.declared.Cycle.{Cycle}
use Rattle.model_states.specs.States.{fresh_state}
use Rattle.model_levels.specs.Levels.{bad_levels}
use Rattle.model_operation.specs.Settling.{settle_of}
use Rattle.model_rules.specs.Cycles.{table_of, number_of, late}
use Rattle.model_judge.specs.Judging.{past_array}
use Rattle.model.specs.declared.Answer.{Answer}
use Rattle.model.specs.declared.Seen.TheVariants.{Refused}
use Rattle.trace_lines.specs.Lines.{is_line, cycle_stated}
use Rattle.trace_replay.specs.Answers.{printed_of, mark_of, trace_end}
use Rattle.trace_replay.specs.Replays.{bench_t, line_step, array_by, good_lines, answers_of, output_from, output_of, BenchSound}
use Rattle.trace_replay.proofs.Scans as scans
use Rattle.trace_replay.proofs.Rounds as turns
use Rattle.trace_replay.proofs.Ends as ends
use Rattle.trace_replay.proofs.ProperBench as never

-- A line's step is refused by m exactly where m's own condition holds on bench T and that of no lower number does.
pub step_refused : (s : State) (c : Cycle) (xs rs : List ℕ) (m : ℕ) → (m ≡ 0 → ⊥)
    → ((line_step s c xs rs).seen ≡ Refused m) ↔ Foremost (table_of bench_t s c (length xs) (length rs)) m
step_refused = ends.step_refused

-- Of its table only 4, 5, 7, 8 and 9 are left while the bench is sound (its state proper, its array of the part's length, a
-- residue as long); a fresh bench is sound, and every step leaves it so. So 1, 2, 3 and 6 never come in the trace program.
pub bench_refusals : (s : State) (c : Cycle) (xs : List ℕ) (r : ℕ) → BenchSound s xs → 16384 ≤ r
    → number_of bench_t s c (length xs) r
    ≡ given (row 4 (bad_levels bench_t.part c) ∷ row 5 (past_array bench_t.part c) ∷ late bench_t.part (settle_of bench_t.part s c.pins).state c)
bench_refusals = never.left_over

pub fresh_sound : (xs : List ℕ) → length xs ≡ 16384 → BenchSound fresh_state xs
fresh_sound = never.fresh_sound

pub stays_sound : (s : State) (c : Cycle) (xs rs : List ℕ) → BenchSound s xs → BenchSound (line_step s c xs rs).state (array_by s c xs rs)
stays_sound = never.stays_sound

-- The replay walks the lines: a good line, before line 9999, is answered by eight bytes and the rest replayed from what it left ..
pub good_line : (k n : ℕ) (s : State) (xs rs text : List ℕ) → is_line (take 20 text) ≡ true
    → output_from (suc k) n s xs rs text
    ≡ printed_of (line_step s (cycle_stated (take 20 text)) xs rs)
    ++ output_from k (suc n) (line_step s (cycle_stated (take 20 text)) xs rs).state (array_by s (cycle_stated (take 20 text)) xs rs) rs (drop 20 text)
good_line = ends.good_line

pub eight_bytes : (a : Answer) → length (printed_of a) ≡ 8
eight_bytes = turns.answer_length

-- .. a bad or cut-off line ends it with its mark ..
pub bad_line : (k n : ℕ) (s : State) (xs rs text : List ℕ) → is_line (take 20 text) ≡ false → (length text ≡ 0 → ⊥)
    → output_from (suc k) n s xs rs text ≡ mark_of n
bad_line = ends.bad_line

-- .. an input at its end ends it without a word; so the empty input prints nothing ..
pub no_line : (k n : ℕ) (s : State) (xs rs : List ℕ) → output_from k n s xs rs [] ≡ []
no_line = ends.no_line

pub empty_input : (xs rs : List ℕ) → output_of xs rs [] ≡ []
empty_input = ends.empty_input

-- .. and line 9999, good or bad, is marked after 9998 good ones.
pub line_9999 : (xs rs text : List ℕ) → good_lines 9998 text ≡ 9998 → 199960 < length text → output_of xs rs text ≡ answers_of 9998 fresh_state xs rs text ++ mark_of 9999
line_9999 = ends.line_9999

-- Whatever the input, the output is the answers to the good lines that come first, 9998 at most, then the end before the next line.
pub output_whole : (xs rs text : List ℕ)
    → output_of xs rs text
    ≡ answers_of (good_lines 9998 text) fresh_state xs rs text ++ trace_end (good_lines 9998 text + 1) (length text - 20 * good_lines 9998 text)
output_whole = ends.output_whole

pub good_most : (k : ℕ) (text : List ℕ) → good_lines k text ≤ k
good_most = scans.good_most

-- No output is longer than 9998 answers and a mark: room of 79,991 bytes is never too short.
pub output_most : (xs rs text : List ℕ) → length (output_of xs rs text) ≤ 79991
output_most = ends.output_most
