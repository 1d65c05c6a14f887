-- Two results that a promise of this crate allows are equal, and so is what it leaves in each thing lent.
use mathlib.Core.Path.{◌≡◌}
use mathlib.Core.List.{List}
use Prim.Native.Nat.{ℕ}
use Rattle.common.specs.Choice.{Unique}
use Rattle.common.proofs.Choice.{only}
use Rattle.device.specs.declared.Device.{Device}
use Rattle.model_types.specs.declared.State.{State}
use Rattle.recording.specs.declared.Noted.{Noted}
use Rattle.recording_walk.specs.declared.Checked.{Checked}
use Rattle.recording_walk.specs.declared.Walk.{Walk}
use Rattle.recording_walk.specs.Lists.{checked_of, bytes_checked}
use Rattle.recording_walk.specs.Inner.{went_on, bytes_on, walk_from, end_of}

pub go_on_unique : (w : Walk) (r : Noted) (array : List ℕ) → Unique (λ (q : Walk). q ≡ went_on w r array)
go_on_unique w r array = only (went_on w r array)

pub go_on_array_unique : (w : Walk) (r : Noted) (array : List ℕ) → Unique (λ (left : List ℕ). left ≡ bytes_on w r array)
go_on_array_unique w r array = only (bytes_on w r array)

pub begin_unique : (d : Device) (s : State) (n : ℕ) → Unique (λ (r : Walk). r ≡ walk_from d s n)
begin_unique d s n = only (walk_from d s n)

pub end_unique : (w : Walk) (promised array : List ℕ) → Unique (λ (r : Checked). r ≡ end_of w promised array)
end_unique w promised array = only (end_of w promised array)

pub end_array_unique : (array : List ℕ) → Unique (λ (left : List ℕ). left ≡ array)
end_array_unique array = only array

pub check_recording_unique : (d : Device) (s : State) (list : List Noted) (promised array : List ℕ) → Unique (λ (r : Checked). r ≡ checked_of d s list promised array)
check_recording_unique d s list promised array = only (checked_of d s list promised array)

pub check_recording_array_unique : (d : Device) (s : State) (list : List Noted) (array : List ℕ) → Unique (λ (left : List ℕ). left ≡ bytes_checked d s list array)
check_recording_array_unique d s list array = only (bytes_checked d s list array)
