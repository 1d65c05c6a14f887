-- Within a recording the state stays proper on the device of the longest busy time.
use mathlib.Core.Path.{◌≡◌, sym, subst}
use mathlib.Core.Bool.{true, false}
use mathlib.Core.List.{List, [], ◌∷◌}
use Prim.Native.Nat.{ℕ, ◌≤◌}
use native.Mathlib.Omega.{arith}
use lib.Dec.{eqb, ltb}
use borrow.Author.Tests.{ltb-false}
use Rattle.common.proofs.Choice.{if_ind, if_false, or_right, unlike}
use Rattle.units.specs.Units.{lent}
use Rattle.device.specs.declared.Part.{Part}
use Rattle.device.specs.declared.Device.{Device}
use Rattle.model_types.specs.declared.Phase.{Phase}
use Rattle.model_types.specs.declared.Phase.TheVariants.{Free, EraseAwaited, DataAwaited, Programming, Erasing, Suspending, Suspended}
use Rattle.model_types.specs.declared.State.{State}
use Rattle.model_types.specs.Phases.{is_free, is_pending}
use Rattle.model_states.specs.States.{most_left, improper}
use Rattle.model_rules.proofs.Facts.{Proper, proper_parts, parts_proper}
use Rattle.model.specs.Arrays.{answer_of}
use Rattle.model.proofs.Claims.{stays_proper}
use Rattle.recording.specs.declared.Noted.{Noted}
use Rattle.recording.specs.Recordings.{starts, longest, outside, count_of, time_of, timed, answer_to}
use Rattle.recording_walk.specs.Lists.{Held, onward, left_by}
use Rattle.recording_claims.proofs.Timing.{starts_awaited, proper_timed}
use Rattle.recording_claims.proofs.Replaying.{pending_unawaited}

-- no record's time is longer than the longest
count_most : (n : ℕ) → count_of n ≤ longest
unfolding count_of outside
count_most n =
    if_ind (λ (k : ℕ). k ≤ longest) (outside n) longest n (λ e. omega arith) (λ e. ltb-false longest n (or_right (eqb n 0) (ltb longest n) e))

time_most : (part : Part) (s : State) (r : Noted) → time_of part s r ≤ longest
unfolding time_of
time_most part s r = if_ind (λ (k : ℕ). k ≤ longest) (starts part s r.cycle) (count_of r.busy) longest (λ e. count_most r.busy) (λ e. omega arith)

timed_most : (d : Device) (n : ℕ) → n ≤ longest → (ph : Phase) → most_left (timed d n) ph ≤ longest
timed_most d n l Free = omega arith
timed_most d n l EraseAwaited = omega arith
timed_most d n l DataAwaited = omega arith
timed_most d n l (Programming x) = l
timed_most d n l Erasing = l
timed_most d n l (Suspending k) = l
timed_most d n l Suspended = l

free_rests : (ph : Phase) → is_free ph ≡ true → is_pending ph ≡ true → ⊥
free_rests Free f p = unlike (sym p)
free_rests EraseAwaited f p = unlike (sym p)
free_rests DataAwaited f p = unlike (sym p)
free_rests (Programming x) f p = unlike (sym f)
free_rests Erasing f p = unlike (sym f)
free_rests (Suspending k) f p = unlike (sym f)
free_rests Suspended f p = unlike (sym f)

-- an idle state that is proper on the device is proper on that of the longest time
pub start_proper : (d : Device) (s : State) → improper d s ≡ false → is_free s.phase ≡ true → improper (timed d longest) s ≡ false
start_proper d s p f = parts_proper (timed d longest) s (proper_timed d longest s (λ q. absurd (free_rests s.phase f q)) (proper_parts d s p))

module _ (d : Device) where
  time_other : (s : State) (r : Noted) → is_pending s.phase ≡ true → time_of d.part s r ≡ longest
  unfolding time_of
  time_other s r p = if_false (starts d.part s r.cycle) _ _ (starts_awaited d.part s r.cycle (pending_unawaited s.phase p))

  stays : (v : Held) (r : Noted) → improper (timed d longest) v.state ≡ false → improper (timed d longest) (onward d v r).state ≡ false
  unfolding answer_to
  stays v r p =
      let s : State = v.state in
      let n : ℕ = time_of d.part s r in
      let here : Proper (timed d n) s =
      proper_timed (timed d longest) n s (λ q. subst (λ (k : ℕ). most_left (timed d longest) s.phase ≤ k) (sym (time_other s r q)) (timed_most d longest (omega arith) s.phase)) (proper_parts (timed d longest) s p) in
      let t : State = (answer_of (timed d n) s r.cycle (lent d.part.word v.bytes) []).state in
      let after : improper (timed d n) t ≡ false = stays_proper (timed d n) s r.cycle (lent d.part.word v.bytes) [] (parts_proper (timed d n) s here) in
      parts_proper (timed d longest) t (proper_timed (timed d n) longest t (λ q. timed_most d n (time_most d.part s r) t.phase) (proper_parts (timed d n) t after))

  pub stays_all : (v : Held) (rs : List Noted) → improper (timed d longest) v.state ≡ false → improper (timed d longest) (left_by d v rs).state ≡ false
  stays_all v [] p = p
  stays_all v (r ∷ rs) p = stays_all (onward d v r) rs (stays v r p)
