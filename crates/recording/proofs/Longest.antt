-- Refusals 1 to 6 are the same on the device of the longest time as on that of a record's own: a start has nothing running.
use mathlib.Core.Path.{◌≡◌, refl, sym, ap, ap₂}
use mathlib.Core.Bool.{Bool, true, false, not, ◌&&◌, ◌||◌}
use mathlib.Core.List.{[], ◌∷◌}
use Prim.Native.Nat.{ℕ}
use lib.Dec.{eqb, ltb}
use Rattle.common.specs.Numbers.{row, given}
use Rattle.common.proofs.Choice.{if_ind, if_false, or_left, unlike}
use Rattle.device.specs.declared.Device.{Device}
use Rattle.device.specs.Parts.{unknown_part, unknown_device, size_of}
use Rattle.model_types.specs.declared.Cycle.{Cycle}
use Rattle.model_types.specs.declared.State.{State}
use Rattle.model_types.specs.declared.Phase.{Phase}
use Rattle.model_types.specs.declared.Phase.TheVariants.{Free, EraseAwaited, DataAwaited, Programming, Erasing, Suspending, Suspended}
use Rattle.model_levels.specs.Levels.{bad_levels}
use Rattle.model_types.specs.Phases.{is_pending}
use Rattle.model_states.specs.States.{proper_mode, proper_ready, proper_held, proper_low, proper_left, proper_suspend, proper_address, proper, improper}
use Rattle.model_judge.specs.Judging.{past_array, short_residue, judge_of}
use Rattle.recording.specs.declared.Noted.{Noted}
use Rattle.recording.specs.Recordings.{starts, longest, outside, count_of, time_of, timed, device_for}
use Rattle.recording.specs.Inner.{asks}
use Rattle.recording.proofs.Starting.{starts_unasked}

-- what asks for an operation finds none pending
asked_rests : (ph : Phase) (c : Cycle) → asks ph c ≡ true → is_pending ph ≡ false
asked_rests Free c e = absurd (unlike (sym e))
asked_rests EraseAwaited c e = refl
asked_rests DataAwaited c e = refl
asked_rests (Programming b) c e = absurd (unlike (sym e))
asked_rests Erasing c e = absurd (unlike (sym e))
asked_rests (Suspending n) c e = absurd (unlike (sym e))
asked_rests Suspended c e = absurd (unlike (sym e))

-- with nothing pending no time is looked at
left_unread : (d : Device) (a b : ℕ) (ph : Phase) (left : ℕ) → is_pending ph ≡ false → proper_left (timed d a) ph left ≡ proper_left (timed d b) ph left
left_unread d a b ph left e = simp e

proper_unread : (d : Device) (a b : ℕ) (s : State) → is_pending s.phase ≡ false → improper (timed d a) s ≡ improper (timed d b) s
unfolding improper proper
proper_unread d a b s e =
    ap (λ (x : Bool). not (proper_mode s.phase s.mode && proper_ready s.phase s.status && proper_held s.phase s.status && proper_low s.status && x && proper_suspend d s.phase && proper_address d s.phase s.address))
    (left_unread d a b s.phase s.left e)

module _ (d : Device) (s : State) (r : Noted) where
  time_some : eqb (time_of d.part s r) 0 ≡ false
  unfolding time_of count_of outside
  time_some =
      if_ind (λ (n : ℕ). eqb n 0 ≡ false) (starts d.part s r.cycle) (count_of r.busy) longest
      (λ e. if_ind (λ (n : ℕ). eqb n 0 ≡ false) (outside r.busy) longest r.busy (λ f. refl) (λ f. or_left (eqb r.busy 0) (ltb longest r.busy) f))
      (λ e. refl)

  known_same : unknown_device (device_for d s r) ≡ unknown_device (timed d longest)
  unfolding unknown_device
  known_same = ap (λ (b : Bool). (((unknown_part d.part || b) || b) || eqb d.suspend 0) || ltb 100 d.suspend) time_some

  time_unasked : asks s.phase r.cycle ≡ false → time_of d.part s r ≡ longest
  unfolding time_of
  time_unasked e = if_false (starts d.part s r.cycle) (count_of r.busy) longest (sym (starts_unasked d.part s r.cycle e))

  proper_same : improper (device_for d s r) s ≡ improper (timed d longest) s
  proper_same = go (asks s.phase r.cycle) refl
    where
      go : (b : Bool) → asks s.phase r.cycle ≡ b → improper (device_for d s r) s ≡ improper (timed d longest) s
      go true e = proper_unread d (time_of d.part s r) longest s (asked_rests s.phase r.cycle e)
      go false e = ap (λ (n : ℕ). improper (timed d n) s) (time_unasked e)

  pub judge_longest : (n k : ℕ) → judge_of (timed d longest) s r.cycle n k ≡ judge_of (device_for d s r) s r.cycle n k
  unfolding judge_of
  judge_longest n k =
      sym (ap₂ (λ (a b : Bool). given (row 1 a ∷ row 2 (not (eqb n (size_of d.part))) ∷ row 3 b ∷ row 4 (bad_levels d.part r.cycle) ∷ row 5 (past_array d.part r.cycle) ∷ row 6 (short_residue d.part s r.cycle k) ∷ [])) known_same proper_same)
