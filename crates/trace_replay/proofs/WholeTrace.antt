-- A whole trace, from the count of its good lines and the length of its end.
use mathlib.Core.Path.{◌≡◌, sym, ap, ◌∙◌, subst}
use mathlib.Core.List.{List, ◌++◌}
use Prim.Native.Nat.{ℕ, ◌+◌, ◌-◌, ◌*◌, ◌≤◌, ◌<◌}
use native.Mathlib.Omega.{arith}
use lib.Dec.{ltb}
use lib.ListN.{length, drop, length-append}
use lib.Seq.{length-take-le}
use borrow.Author.Tests.{lt-ltb, le-ltb}
use borrow.Rule.Slice.PartMut.{put_mid, mid_of, same_len_mid}
use Rattle.common.proofs.Choice.{if_true, if_false}
use Rattle.common.specs.Lists.{copied}
use Rattle.model_states.specs.States.{fresh_state}
use Rattle.trace_replay.specs.Answers.{trace_end}
use Rattle.trace_replay.specs.Replays.{good_lines, answers_of, arrays_of, output_of, array_left, replayed_as, replayed_in, left_in_room, Used}
use Rattle.trace_replay.proofs.Scans.{good_most, good_fit}
use Rattle.trace_replay.proofs.Rounds.{answers_length, end_any, end_short, put_end, output_is, array_is}

-- where the room is too short, a slice is as it was; where it is not, it is the other
held_short : (room : ℕ) (ys before after : List ℕ) → room < length ys → before ≡ left_in_room room ys before after
unfolding left_in_room
held_short room ys before after h = sym (if_true (ltb room (length ys)) before after (lt-ltb room (length ys) h))

held_long : (room : ℕ) (ys before after : List ℕ) → length ys ≤ room → after ≡ left_in_room room ys before after
unfolding left_in_room
held_long room ys before after h = sym (if_false (ltb room (length ys)) before after (le-ltb room (length ys) h))

module _ (g el : ℕ) (xs rs text out : List ℕ) (eg : g ≡ good_lines 9998 text) (ee : el ≡ length (trace_end 0 (length text - 20 * g))) where
  pub few : g ≤ 9998
  few = subst (λ (m : ℕ). m ≤ 9998) (sym eg) (good_most 9998 text)

  pub inside : 20 * g ≤ length text
  inside = subst (λ (m : ℕ). 20 * m ≤ length text) (sym eg) (good_fit 9998 text)

  pub short : el ≤ 7
  short = subst (λ (m : ℕ). m ≤ 7) (sym ee) (end_short (length text - 20 * g))

  pub whole : output_of xs rs text ≡ answers_of g fresh_state xs rs text ++ trace_end (g + 1) (length text - 20 * g)
  unfolding output_of
  whole =
      let e : 1 + g ≡ g + 1 = omega arith in
      output_is 9998 1 fresh_state xs rs text
      ∙ ap (λ (m : ℕ). answers_of m fresh_state xs rs text ++ trace_end (1 + m) (length text - 20 * m)) (sym eg)
      ∙ ap (λ (m : ℕ). answers_of g fresh_state xs rs text ++ trace_end m (length text - 20 * g)) e

  pub whole_length : length (output_of xs rs text) ≡ 8 * g + el
  whole_length =
      ap (λ (w : List ℕ). length w) whole
      ∙ length-append (answers_of g fresh_state xs rs text) (trace_end (g + 1) (length text - 20 * g))
      ∙ ap (λ (m : ℕ). m + length (trace_end (g + 1) (length text - 20 * g))) (answers_length g fresh_state xs rs text)
      ∙ ap (λ (m : ℕ). 8 * g + m) (end_any (g + 1) (length text - 20 * g) ∙ sym ee)

  array_left_lem : array_left xs rs text ≡ arrays_of g fresh_state xs rs text
  unfolding array_left
  array_left_lem = array_is 9998 fresh_state xs rs text ∙ ap (λ (m : ℕ). arrays_of m fresh_state xs rs text) (sym eg)

  -- too little room
  module _ (h : length out < 8 * g + el) where
    lacks : length out < length (output_of xs rs text)
    lacks = subst (λ (m : ℕ). length out < m) (sym whole_length) h

    pub refused : replayed_as 37 0 ≡ replayed_in (length out) (output_of xs rs text)
    unfolding replayed_in
    refused =
        sym (if_true (ltb (length out) (length (output_of xs rs text))) (replayed_as 37 0) (replayed_as 0 (length (output_of xs rs text))) (lt-ltb (length out) (length (output_of xs rs text)) lacks))

    pub refused_array : xs ≡ left_in_room (length out) (output_of xs rs text) xs (array_left xs rs text)
    refused_array = held_short (length out) (output_of xs rs text) xs (array_left xs rs text) lacks

    pub refused_out : out ≡ left_in_room (length out) (output_of xs rs text) out (copied out (output_of xs rs text))
    refused_out = held_short (length out) (output_of xs rs text) out (copied out (output_of xs rs text)) lacks

  -- room enough: zs is the end, laid over its part of the slice o that holds the answers
  module _ (h : 8 * g + el ≤ length out) where
    fits : length (output_of xs rs text) ≤ length out
    fits = subst (λ (m : ℕ). m ≤ length out) (sym whole_length) h

    pub done : replayed_as 0 (8 * g + el) ≡ replayed_in (length out) (output_of xs rs text)
    unfolding replayed_in
    done =
        ap (λ (m : ℕ). replayed_as 0 m) (sym whole_length)
        ∙ sym (if_false (ltb (length out) (length (output_of xs rs text))) (replayed_as 37 0) (replayed_as 0 (length (output_of xs rs text))) (le-ltb (length out) (length (output_of xs rs text)) fits))

    pub done_array : (ys : List ℕ) → ys ≡ arrays_of g fresh_state xs rs text → ys ≡ left_in_room (length out) (output_of xs rs text) xs (array_left xs rs text)
    done_array ys e = e ∙ sym array_left_lem ∙ held_long (length out) (output_of xs rs text) xs (array_left xs rs text) fits

    module _ (o zs : List ℕ) (eo : o ≡ answers_of g fresh_state xs rs text ++ drop (8 * g) out)
        (ez : zs ≡ copied (mid_of (8 * g) (8 * g + el - 8 * g) o) (trace_end (g + 1) (length text - 20 * g))) where
      put : put_mid (8 * g) (8 * g + el - 8 * g) o zs ≡ copied out (output_of xs rs text)
      put =
          let A : List ℕ = answers_of g fresh_state xs rs text in
          let E : List ℕ = trace_end (g + 1) (length text - 20 * g) in
          let n : 8 * g + el ≡ 8 * g + length E = ap (λ (m : ℕ). 8 * g + m) (ee ∙ sym (end_any (g + 1) (length text - 20 * g))) in
          ap (λ (w : List ℕ). put_mid (8 * g) (8 * g + el - 8 * g) o w) ez
          ∙ ap (λ (w : List ℕ). put_mid (8 * g) (8 * g + el - 8 * g) w (copied (mid_of (8 * g) (8 * g + el - 8 * g) w) E)) eo
          ∙ put_end A E out (8 * g) (8 * g + el) (answers_length g fresh_state xs rs text) n h
          ∙ ap (λ (w : List ℕ). copied out w) (sym whole)

      pub done_out : put_mid (8 * g) (8 * g + el - 8 * g) o zs ≡ left_in_room (length out) (output_of xs rs text) out (copied out (output_of xs rs text))
      done_out = put ∙ held_long (length out) (output_of xs rs text) out (copied out (output_of xs rs text)) fits

      pub done_used : length zs ≡ length (mid_of (8 * g) (8 * g + el - 8 * g) o) → length o ≡ length out → Used (8 * g + el) (put_mid (8 * g) (8 * g + el - 8 * g) o zs)
      done_used lz lo =
          let l : length (put_mid (8 * g) (8 * g + el - 8 * g) o zs) ≡ length out = same_len_mid (8 * g) (8 * g + el - 8 * g) o zs lz ∙ lo in
          let k : 8 * g + el ≤ length (put_mid (8 * g) (8 * g + el - 8 * g) o zs) = subst (λ (m : ℕ). 8 * g + el ≤ m) (sym l) h in
          (k, sym (length-take-le (8 * g + el) (put_mid (8 * g) (8 * g + el - 8 * g) o zs) k))
