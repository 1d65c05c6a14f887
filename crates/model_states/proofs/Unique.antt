-- Two results that a promise of this crate allows are equal.
use mathlib.Core.Path.{◌≡◌}
use mathlib.Core.Bool.{Bool}
use Prim.Native.Nat.{ℕ}
use Rattle.common.specs.Choice.{Unique}
use Rattle.common.proofs.Choice.{only}
use Rattle.device.specs.declared.Device.{Device}
use Rattle.model_types.specs.declared.State.{State}
use Rattle.model_types.specs.declared.Mode.{Mode}
use Rattle.model_types.specs.declared.Phase.{Phase}
use Rattle.model_states.specs.States.{is_array, is_identifier, improper, is_at_rest, in_phase, fresh_state, reset_of}
use Rattle.model_types.specs.Phases.{is_busy, is_suspending, suspend_left, is_pending}

pub is_busy_unique : (ph : Phase) → Unique (λ (r : Bool). r ≡ is_busy ph)
is_busy_unique ph = only (is_busy ph)

pub is_suspending_unique : (ph : Phase) → Unique (λ (r : Bool). r ≡ is_suspending ph)
is_suspending_unique ph = only (is_suspending ph)

pub suspend_left_unique : (ph : Phase) → Unique (λ (r : ℕ). r ≡ suspend_left ph)
suspend_left_unique ph = only (suspend_left ph)

pub is_pending_unique : (ph : Phase) → Unique (λ (r : Bool). r ≡ is_pending ph)
is_pending_unique ph = only (is_pending ph)

pub is_array_unique : (m : Mode) → Unique (λ (r : Bool). r ≡ is_array m)
is_array_unique m = only (is_array m)

pub is_identifier_unique : (m : Mode) → Unique (λ (r : Bool). r ≡ is_identifier m)
is_identifier_unique m = only (is_identifier m)

pub improper_unique : (d : Device) (s : State) → Unique (λ (r : Bool). r ≡ improper d s)
improper_unique d s = only (improper d s)

pub at_rest_unique : (s : State) (m : Mode) (sr : ℕ) → Unique (λ (r : State). r ≡ is_at_rest s m sr)
at_rest_unique s m sr = only (is_at_rest s m sr)

pub in_phase_unique : (ph : Phase) (sr : ℕ) (s : State) → Unique (λ (r : State). r ≡ in_phase ph sr s)
in_phase_unique ph sr s = only (in_phase ph sr s)

pub fresh_unique : Unique (λ (r : State). r ≡ fresh_state)
fresh_unique = only fresh_state

pub reset_unique : (s : State) → Unique (λ (r : State). r ≡ reset_of s)
reset_unique s = only (reset_of s)
