-- A whole trace recorded: the two ways out.
use mathlib.Core.Path.{◌≡◌, sym, ap, subst, ◌∙◌}
use mathlib.Core.List.{List, ◌++◌}
use Prim.Native.Nat.{ℕ, ◌*◌, ◌≤◌, ◌<◌}
use native.Mathlib.Omega.{arith}
use lib.Dec.{ltb}
use lib.ListN.{length, drop}
use borrow.Author.Tests.{lt-ltb, le-ltb}
use Rattle.common.proofs.Choice.{if_true, if_false, if_ind}
use Rattle.model_states.specs.States.{fresh_state}
use Rattle.text.specs.Writing.{Used}
use Rattle.text.proofs.Laying.{used}
use Rattle.trace_replay.specs.Replays.{good_lines, arrays_of}
use Rattle.trace_replay.proofs.Scans.{good_most, good_fit}
use Rattle.recording_replay.specs.declared.Log.{Log}
use Rattle.recording_replay.specs.declared.Made.{Made}
use Rattle.recording_replay.specs.Recorded.{lines_from, log_from, no_log, bad_behind, used_for, made_from, no_room, trace_made, array_made, out_made}

-- no more bytes are used than there are lines
used_most : (number bad g : ℕ) → used_for number bad g ≤ 31 * g
unfolding used_for
used_most number bad g =
    if_ind Few (ltb 0 number) _ _ (λ e. omega arith) (λ e. if_ind Few (ltb 0 bad) _ _ (λ h. omega arith) (λ h. omega arith))
  where
    Few : ℕ → Type 0
    Few n = n ≤ 31 * g

-- the four promises of a recording
abbrev pub Recorded : List ℕ → List ℕ → List ℕ → List ℕ → Made → List ℕ → List ℕ → Type 0
Recorded xs rs text out r ys zs = (r ≡ trace_made (length out) xs rs text) × ((ys ≡ array_made (length out) xs rs text) × ((zs ≡ out_made out xs rs text) × Used r.used zs))

-- g is the count of the good lines
module _ (g : ℕ) (xs rs text out : List ℕ) (eg : g ≡ good_lines 9998 text) where
  pub few : g ≤ 9998
  few = subst (λ (m : ℕ). m ≤ 9998) (sym eg) (good_most 9998 text)

  pub inside : 20 * g ≤ length text
  inside = subst (λ (m : ℕ). 20 * m ≤ length text) (sym eg) (good_fit 9998 text)

  -- the room is too short
  pub short : length out < 31 * g → (r : Made) → r ≡ no_room → Recorded xs rs text out r xs out
  unfolding trace_made array_made out_made
  short h r e =
      let t = lt-ltb (length out) (31 * good_lines 9998 text) (subst (λ (m : ℕ). length out < 31 * m) eg h) in (
        e ∙ sym (if_true (ltb (length out) (31 * good_lines 9998 text)) _ _ t),
        (
          sym (if_true (ltb (length out) (31 * good_lines 9998 text)) _ _ t),
          (
            sym (if_true (ltb (length out) (31 * good_lines 9998 text)) _ _ t),
            subst (λ (x : Made). Used x.used out) (sym e) (used 0 out (omega arith)),
          ),
        ),
      )

  -- it is long enough
  pub enough : 31 * g ≤ length out → (r : Made) (bad : ℕ) (l : Log) (ys zs : List ℕ) → r ≡ made_from g bad l → bad ≡ bad_behind g (length text)
      → l ≡ log_from g 1 no_log xs rs text → ys ≡ arrays_of g fresh_state xs rs text → zs ≡ lines_from g fresh_state xs rs text ++ drop (31 * g) out
      → length zs ≡ length out → Recorded xs rs text out r ys zs
  unfolding trace_made array_made out_made
  enough h r bad l ys zs e eb el ea ez lz =
      let t = le-ltb (length out) (31 * good_lines 9998 text) (subst (λ (m : ℕ). 31 * m ≤ length out) eg h) in (
        e ∙ (λ i. made_from g (eb i) (el i)) ∙ ap (λ (m : ℕ). made_from m (bad_behind m (length text)) (log_from m 1 no_log xs rs text)) eg
            ∙ sym (if_false (ltb (length out) (31 * good_lines 9998 text)) _ _ t),
        (
          ea ∙ ap (λ (m : ℕ). arrays_of m fresh_state xs rs text) eg ∙ sym (if_false (ltb (length out) (31 * good_lines 9998 text)) _ _ t),
          (
            ez ∙ ap (λ (m : ℕ). lines_from m fresh_state xs rs text ++ drop (31 * m) out) eg ∙ sym (if_false (ltb (length out) (31 * good_lines 9998 text)) _ _ t),
            subst (λ (x : Made). Used x.used zs) (sym e) (used (used_for l.number bad g) zs (omega (arith, used_most l.number bad g))),
          ),
        ),
      )
