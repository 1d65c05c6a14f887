-- A whole script: at a fault its mark alone, else what the walk leaves is the replay of its lines written out.
use mathlib.Core.Path.{◌≡◌, sym, ap, ◌∙◌}
use mathlib.Core.List.{List, []}
use Prim.Native.Nat.{ℕ, ◌*◌, ◌≤◌, ◌<◌}
use native.Mathlib.Omega.{arith}
use lib.Dec.{eqb, ltb}
use lib.ListN.{length}
use borrow.Author.Tests.{eq-eqb, ne_eqb}
use Rattle.common.specs.Lists.{copied, overlaid}
use Rattle.common.proofs.Choice.{if_true, if_false, if_same}
use Rattle.model_types.specs.declared.State.{State}
use Rattle.model_states.specs.States.{fresh_state}
use Rattle.script_lines.specs.Scripts.{Script, print_on, Allowed, lines_in, lines_written, trace_of}
use Rattle.script_lines.specs.Inner.{nothing}
use Rattle.script_lines.proofs.Claims.{written_length}
use Rattle.script_judge.specs.declared.Judged.{Judged}
use Rattle.script_judge.specs.Judges.{script_judged}
use Rattle.script_judge.specs.Reads.{script_in}
use Rattle.script_judge.proofs.Claims.{read_printed, judged_fine}
use Rattle.trace_replay.specs.declared.Replayed.{Replayed}
use Rattle.trace_replay.specs.Answers.{mark_of}
use Rattle.trace_replay.specs.Replays.{output_of, array_left, replayed_as, replayed_in, left_in_room, Used}
use Rattle.script_run.specs.declared.Run.{Run}
use Rattle.script_run.specs.Runs.{trace_in, script_output, script_array}
use Rattle.script_run.specs.Inner.{array_through, answers_through, Ran, RunRead}
use Rattle.script_run.proofs.Laid.{laid_front}
use Rattle.script_run.proofs.Answers.{answers_length, written_fit, replay_answers, replay_array}
use Rattle.script_run.proofs.Lines.{room_short, room_long, replayed_short, replayed_long, used_in}

-- ---- the replay of an allowed script's lines written out
few_written : (s : Script) → Allowed s → length (lines_written s) ≤ 9998
few_written s a = let e = written_length s 1 in let f = a.few in omega arith

pub replayed : (s : Script) (xs rs : List ℕ) → Allowed s → output_of xs rs (trace_of (lines_written s)) ≡ answers_through (lines_written s) fresh_state xs rs
unfolding output_of
replayed s xs rs a = replay_answers (lines_written s) 9998 1 fresh_state xs rs (written_fit s 8 a.formed) (few_written s a)

replayed_left : (s : Script) (xs rs : List ℕ) → Allowed s → array_left xs rs (trace_of (lines_written s)) ≡ array_through (lines_written s) fresh_state xs rs
unfolding array_left
replayed_left s xs rs a = replay_array (lines_written s) 9998 fresh_state xs rs (written_fit s 8 a.formed) (few_written s a)

-- ---- a script with a fault
module _ (fault : ℕ) (xs rs text out : List ℕ) (ef : fault ≡ (script_judged text).fault) (h : fault ≡ 0 → ⊥) where
  pub mark_alone : script_output xs rs text ≡ mark_of fault
  unfolding script_output
  mark_alone =
      if_false (eqb (script_judged text).fault 0) (output_of xs rs (trace_in text)) (mark_of (script_judged text).fault) (ne_eqb (script_judged text).fault 0 (λ (z : (script_judged text).fault ≡ 0). h (ef ∙ z)))
      ∙ ap (λ (n : ℕ). mark_of n) (sym ef)

  pub array_kept : script_array xs rs text ≡ xs
  unfolding script_array
  array_kept = if_false (eqb (script_judged text).fault 0) (array_left xs rs (trace_in text)) xs (ne_eqb (script_judged text).fault 0 (λ (z : (script_judged text).fault ≡ 0). h (ef ∙ z)))

  pub fault_result : (r : Replayed) → r ≡ replayed_in (length out) (mark_of fault) → r ≡ replayed_in (length out) (script_output xs rs text)
  fault_result r e = e ∙ ap (λ (y : List ℕ). replayed_in (length out) y) (sym mark_alone)

  pub fault_array : xs ≡ left_in_room (length out) (script_output xs rs text) xs (script_array xs rs text)
  unfolding left_in_room
  fault_array =
      sym (ap (λ (y : List ℕ). left_in_room (length out) (script_output xs rs text) xs y) array_kept ∙ if_same (ltb (length out) (length (script_output xs rs text))) xs)

  pub fault_out : (zs : List ℕ) → zs ≡ left_in_room (length out) (mark_of fault) out (copied out (mark_of fault))
      → zs ≡ left_in_room (length out) (script_output xs rs text) out (copied out (script_output xs rs text))
  fault_out zs e = e ∙ ap (λ (y : List ℕ). left_in_room (length out) y out (copied out y)) (sym mark_alone)

-- ---- a script without one
module _ (j : Judged) (xs rs text out : List ℕ) (ej : j ≡ script_judged text) (h : j.fault ≡ 0) where
  fine : (script_judged text).fault ≡ 0
  fine = ap (λ (x : Judged). x.fault) (sym ej) ∙ h

  allowed : Allowed (script_in text)
  allowed = (read_printed text fine).0

  printed : print_on (script_in text) [] ≡ text
  printed = (read_printed text fine).1

  counted : j.lines ≡ length (lines_written (script_in text))
  counted = ap (λ (x : Judged). x.lines) (ej ∙ ap (λ (t : List ℕ). script_judged t) (sym printed) ∙ judged_fine (script_in text) allowed)

  pub few_lines : j.lines ≤ 9998
  few_lines = let a = counted in let b = few_written (script_in text) allowed in omega arith

  answers : script_output xs rs text ≡ answers_through (lines_written (script_in text)) fresh_state xs rs
  unfolding script_output
  answers =
      if_true (eqb (script_judged text).fault 0) (output_of xs rs (trace_in text)) (mark_of (script_judged text).fault) (eq-eqb (script_judged text).fault 0 fine)
      ∙ replayed (script_in text) xs rs allowed

  array_is : script_array xs rs text ≡ array_through (lines_written (script_in text)) fresh_state xs rs
  unfolding script_array
  array_is = if_true (eqb (script_judged text).fault 0) (array_left xs rs (trace_in text)) xs (eq-eqb (script_judged text).fault 0 fine) ∙ replayed_left (script_in text) xs rs allowed

  pub size : length (script_output xs rs text) ≡ 8 * j.lines
  size =
      ap (λ (y : List ℕ). length y) answers ∙ answers_length (lines_written (script_in text)) fresh_state xs rs
      ∙ ap (λ (n : ℕ). 8 * n) (sym counted)

  -- too little room
  module _ (l : length out < 8 * j.lines) where
    lacks : length out < length (script_output xs rs text)
    lacks = let e = size in omega arith

    pub short_result : replayed_as 37 0 ≡ replayed_in (length out) (script_output xs rs text)
    short_result = replayed_short (length out) (script_output xs rs text) lacks

    pub short_array : xs ≡ left_in_room (length out) (script_output xs rs text) xs (script_array xs rs text)
    short_array = room_short (length out) (script_output xs rs text) xs (script_array xs rs text) lacks

    pub short_out : out ≡ left_in_room (length out) (script_output xs rs text) out (copied out (script_output xs rs text))
    short_out = room_short (length out) (script_output xs rs text) out (copied out (script_output xs rs text)) lacks

  -- room enough: the walk from the front went to r
  module _ (l : 8 * j.lines ≤ length out) (s : State) (es : s ≡ fresh_state) (r : Run) (xs' out' : List ℕ)
      (i : RunRead text (record { at = 0; left = 3000; used = 0; state = s }) 8 r xs rs out xs' out') where
    ran : Ran text (record { at = 0; left = 3000; used = 0; state = s }) r xs rs out xs' out' (lines_written (script_in text)) [] (lines_in (script_in text))
    unfolding RunRead
    ran = i (script_in text) [] allowed.formed nothing (sym printed) allowed.short (let a = counted in omega arith)

    enough : length (script_output xs rs text) ≤ length out
    enough = let e = size in omega arith

    pub whole_result : replayed_as 0 r.used ≡ replayed_in (length out) (script_output xs rs text)
    whole_result =
        let u : r.used ≡ length (script_output xs rs text) = (let a = ran.used in let b = counted in let c = size in omega arith) in
        ap (λ (n : ℕ). replayed_as 0 n) u ∙ replayed_long (length out) (script_output xs rs text) enough

    pub whole_array : xs' ≡ left_in_room (length out) (script_output xs rs text) xs (script_array xs rs text)
    whole_array =
        ran.array ∙ ap (λ (q : State). array_through (lines_written (script_in text)) q xs rs) es ∙ sym array_is
        ∙ room_long (length out) (script_output xs rs text) xs (script_array xs rs text) enough

    pub whole_out : out' ≡ left_in_room (length out) (script_output xs rs text) out (copied out (script_output xs rs text))
    whole_out =
        ran.laid ∙ ap (λ (q : State). overlaid out 0 (answers_through (lines_written (script_in text)) q xs rs)) es
        ∙ ap (λ (y : List ℕ). overlaid out 0 y) (sym answers)
        ∙ laid_front out (script_output xs rs text) enough
        ∙ room_long (length out) (script_output xs rs text) out (copied out (script_output xs rs text)) enough

    pub whole_used : length out' ≡ length out → Used r.used out'
    whole_used e = used_in r.used out out' (let a = ran.used in let b = counted in omega arith) e
