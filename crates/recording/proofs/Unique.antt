-- Two results that a promise of this crate allows are equal, and so is what it leaves in each thing lent.
use mathlib.Core.Path.{◌≡◌}
use mathlib.Core.Bool.{Bool}
use mathlib.Core.List.{List}
use Prim.Native.Nat.{ℕ}
use Rattle.common.specs.Choice.{Unique}
use Rattle.common.proofs.Choice.{only}
use Rattle.device.specs.declared.Part.{Part}
use Rattle.device.specs.declared.Device.{Device}
use Rattle.model_types.specs.declared.Cycle.{Cycle}
use Rattle.model_types.specs.declared.State.{State}
use Rattle.recording.specs.declared.Noted.{Noted}
use Rattle.recording.specs.declared.Recorded.{Recorded}
use Rattle.recording.specs.declared.Why.{Why}
use Rattle.recording.specs.Recordings.{starts, faulty, recorded_of, bytes_recorded, why_of}

pub starts_unique : (part : Part) (s : State) (c : Cycle) → Unique (λ (r : Bool). r ≡ starts part s c)
starts_unique part s c = only (starts part s c)

pub at_fault_unique : (d : Device) (s : State) (r : Noted) (array : List ℕ) → Unique (λ (b : Bool). b ≡ faulty d s r array)
at_fault_unique d s r array = only (faulty d s r array)

pub reason_unique : (d : Device) (s : State) (r : Noted) (array : List ℕ) → Unique (λ (w : Why). w ≡ why_of d s r array)
reason_unique d s r array = only (why_of d s r array)

pub step_record_unique : (d : Device) (s : State) (r : Noted) (array : List ℕ) → Unique (λ (q : Recorded). q ≡ recorded_of d s r array)
step_record_unique d s r array = only (recorded_of d s r array)

pub step_record_array_unique : (d : Device) (s : State) (r : Noted) (array : List ℕ) → Unique (λ (left : List ℕ). left ≡ bytes_recorded d s r array)
step_record_array_unique d s r array = only (bytes_recorded d s r array)
