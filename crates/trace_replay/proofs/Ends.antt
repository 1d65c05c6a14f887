-- The ways in which a replay goes on and ends, one law each.
use mathlib.Core.Path.{◌≡◌, refl, ap, ◌∙◌}
use mathlib.Core.Bool.{true, false}
use mathlib.Core.List.{List, [], ◌++◌}
use mathlib.Core.Logic.{◌↔◌}
use Prim.Native.Nat.{ℕ, zero, suc, ◌+◌, ◌-◌, ◌*◌, ◌≤◌, ◌<◌}
use native.Mathlib.Omega.{arith}
use lib.Dec.{eqb}
use lib.ListN.{length, take, drop}
use borrow.Author.Tests.{ne_eqb}
use Rattle.common.proofs.Choice.{if_false}
use Rattle.common.specs.Numbers.{Foremost}
use Rattle.model_types.specs.declared.State.{State}
use Rattle.model_types.specs.declared.Cycle.{Cycle}
use Rattle.model_states.specs.States.{fresh_state}
use Rattle.model_rules.specs.Cycles.{table_of}
use Rattle.model.specs.declared.Seen.TheVariants.{Refused}
use Rattle.model.proofs.Claims as model
use Rattle.trace_lines.specs.Lines.{is_line, cycle_stated}
use Rattle.trace_replay.specs.Answers.{printed_of, mark_of, trace_end}
use Rattle.trace_replay.specs.Replays.{bench_t, line_step, array_by, good_lines, answers_of, output_from, output_of}
use Rattle.trace_replay.proofs.Scans.{not_line}
use Rattle.trace_replay.proofs.WholeTrace.{few, short, whole_length}
use Rattle.trace_replay.proofs.Rounds.{output_is}

pub step_refused : (s : State) (c : Cycle) (xs rs : List ℕ) (m : ℕ) → (m ≡ 0 → ⊥)
    → ((line_step s c xs rs).seen ≡ Refused m) ↔ Foremost (table_of bench_t s c (length xs) (length rs)) m
unfolding line_step
step_refused s c xs rs m z = model.refused_exactly bench_t s c xs rs m z

pub good_line : (k n : ℕ) (s : State) (xs rs text : List ℕ) → is_line (take 20 text) ≡ true
    → output_from (suc k) n s xs rs text
    ≡ printed_of (line_step s (cycle_stated (take 20 text)) xs rs)
    ++ output_from k (suc n) (line_step s (cycle_stated (take 20 text)) xs rs).state (array_by s (cycle_stated (take 20 text)) xs rs) rs (drop 20 text)
unfolding output_from
good_line k n s xs rs text e = rw e refl

-- what ends before line n, with bytes left over, ends with its mark
marked : (n left : ℕ) → (left ≡ 0 → ⊥) → trace_end n left ≡ mark_of n
unfolding trace_end
marked n left h = if_false (eqb left 0) [] (mark_of n) (ne_eqb left 0 h)

pub bad_line : (k n : ℕ) (s : State) (xs rs text : List ℕ) → is_line (take 20 text) ≡ false → (length text ≡ 0 → ⊥)
    → output_from (suc k) n s xs rs text ≡ mark_of n
unfolding output_from
bad_line k n s xs rs text e h = rw e (marked n (length text) h)

quiet : (n : ℕ) → trace_end n 0 ≡ []
unfolding trace_end
quiet n = refl

empty_bad : is_line [] ≡ false
empty_bad = not_line [] (λ (e : ◌≡◌ {A = ℕ} 0 20). omega arith)

pub no_line : (k n : ℕ) (s : State) (xs rs : List ℕ) → output_from k n s xs rs [] ≡ []
unfolding output_from
no_line zero n s xs rs = quiet n
no_line (suc k) n s xs rs = rw empty_bad (quiet n)

pub empty_input : (xs rs : List ℕ) → output_of xs rs [] ≡ []
unfolding output_of
empty_input xs rs = no_line _ _ fresh_state xs rs

pub output_whole : (xs rs text : List ℕ)
    → output_of xs rs text
    ≡ answers_of (good_lines 9998 text) fresh_state xs rs text ++ trace_end (good_lines 9998 text + 1) (length text - 20 * good_lines 9998 text)
unfolding output_of
output_whole xs rs text =
    let g = good_lines 9998 text in
    let e : 1 + g ≡ g + 1 = omega arith in
    output_is 9998 1 fresh_state xs rs text ∙ ap (λ (m : ℕ). answers_of g fresh_state xs rs text ++ trace_end m (length text - 20 * g)) e

pub line_9999 : (xs rs text : List ℕ) → good_lines 9998 text ≡ 9998 → 199960 < length text → output_of xs rs text ≡ answers_of 9998 fresh_state xs rs text ++ mark_of 9999
line_9999 xs rs text e h =
    output_whole xs rs text
    ∙ ap (λ (g : ℕ). answers_of g fresh_state xs rs text ++ trace_end (g + 1) (length text - 20 * g)) e
    ∙ ap (λ (w : List ℕ). answers_of 9998 fresh_state xs rs text ++ w) (marked 9999 (length text - 199960) (λ (z : length text - 199960 ≡ 0). omega arith))

-- 9998 answers of eight bytes and a mark of seven are the most
pub output_most : (xs rs text : List ℕ) → length (output_of xs rs text) ≤ 79991
output_most xs rs text =
    let g = good_lines 9998 text in
    let el = length (trace_end 0 (length text - 20 * g)) in
    omega (arith, whole_length g el xs rs text [] refl refl, few g el xs rs text [] refl refl, short g el xs rs text [] refl refl)
