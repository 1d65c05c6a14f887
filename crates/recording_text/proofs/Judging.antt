-- A text judged: the walk over its records from a fresh bench, and its end.
use mathlib.Core.Path.{◌≡◌, ap, ap₂, ◌∙◌}
use mathlib.Core.List.{List}
use Prim.Native.Nat.{ℕ, ◌≤◌}
use native.Mathlib.Omega.{arith}
use lib.ListN.{length}
use Rattle.device.specs.declared.Device.{Device}
use Rattle.model_types.specs.declared.State.{State}
use Rattle.model_states.specs.States.{fresh_state}
use Rattle.recording_walk.specs.declared.Checked.{Checked}
use Rattle.recording_walk.specs.declared.Walk.{Walk}
use Rattle.recording_walk.specs.Lists.{checked_of, bytes_checked}
use Rattle.recording_walk.specs.Inner.{went_over, bytes_over, walk_from, end_of}
use Rattle.recording_walk.proofs.Going.{answers}
use Rattle.trace_replay.specs.Replays.{bench_t}
use Rattle.recording_text.specs.declared.Come.{Come}
use Rattle.recording_text.specs.Texts.{records_of, bad_after, judged_of, array_judged}
use Rattle.recording_text.specs.Inner.{come_of}
use Rattle.recording_text.proofs.Rounds.{few}

module _ (text promised xs : List ℕ) (d : Device) (s : State) (w : Walk) (c : Come) (a : d ≡ bench_t) (b : s ≡ fresh_state) (p : w ≡ walk_from d s (length xs)) (q : c ≡ come_of w text xs) where
  abbrev from : Walk
  from = walk_from bench_t fresh_state (length xs)

  begun : w ≡ from
  begun = p ∙ ap₂ (λ (e : Device) (t : State). walk_from e t (length xs)) a b

  pub read : c.lines ≡ length (records_of text)
  unfolding come_of
  read = ap (λ (k : Come). k.lines) q

  pub read_few : c.lines ≤ 9998
  read_few = omega (arith, read, few 9998 text)

  walked : c.walk ≡ went_over xs from (records_of text)
  unfolding come_of
  walked = ap (λ (k : Come). k.walk) q ∙ ap (λ (v : Walk). went_over xs v (records_of text)) begun

  -- what the end says is the check's answer
  module _ (ys zs : List ℕ) (r : ys ≡ bytes_over xs w (records_of text)) (t : zs ≡ ys) where
    ended : (end_of (went_over xs from (records_of text)) promised (bytes_over xs from (records_of text)) ≡ checked_of bench_t fresh_state (records_of text) promised xs)
        × (bytes_over xs from (records_of text) ≡ bytes_checked bench_t fresh_state (records_of text) xs)
    ended = answers bench_t fresh_state (records_of text) promised xs (let h = few 9998 text in omega arith)

    there : ys ≡ bytes_over xs from (records_of text)
    there = r ∙ ap (λ (v : Walk). bytes_over xs v (records_of text)) begun

    pub left : zs ≡ array_judged text xs
    unfolding array_judged
    left = t ∙ there ∙ ended.1

    pub judged : (x : Checked) (n : ℕ) → x ≡ end_of c.walk promised ys → n ≡ bad_after c.lines (length text)
        → record { lines = c.lines; bad = n; checked = x } ≡ judged_of text promised xs
    unfolding judged_of
    judged x n e f =
        let g : x ≡ checked_of bench_t fresh_state (records_of text) promised xs = e ∙ ap₂ (λ (v : Walk) (l : List ℕ). end_of v promised l) walked there ∙ ended.0 in
        let h : n ≡ bad_after (length (records_of text)) (length text) = f ∙ ap (λ (k : ℕ). bad_after k (length text)) read in
        λ j. record { lines = read j; bad = h j; checked = g j }
