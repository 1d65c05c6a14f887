-- Two results that a promise of this crate allows are equal, and so is what it leaves in each thing lent.
use mathlib.Core.Path.{◌≡◌}
use mathlib.Core.List.{List}
use Prim.Native.Nat.{ℕ}
use Rattle.common.specs.Choice.{Unique}
use Rattle.common.proofs.Choice.{only}
use Rattle.recording.specs.declared.Noted.{Noted}
use Rattle.recording_walk.specs.declared.Checked.{Checked}
use Rattle.c_cycle.specs.declared.DeviceNumbers.{DeviceNumbers}
use Rattle.c_cycle.specs.declared.StateNumbers.{StateNumbers}
use Rattle.c_recording.specs.declared.RecordNumbers.{RecordNumbers}
use Rattle.c_recording.specs.declared.CheckedNumbers.{CheckedNumbers}
use Rattle.c_recording.specs.Records.{record_in, checked_out, checked_returned, array_checked}

pub record_in_unique : (n : RecordNumbers) → Unique (λ (r : Noted). r ≡ record_in n)
record_in_unique n = only (record_in n)

pub checked_out_unique : (n : StateNumbers) (c : Checked) → Unique (λ (r : CheckedNumbers). r ≡ checked_out n c)
checked_out_unique n c = only (checked_out n c)

pub recording_unique : (d : DeviceNumbers) (s : StateNumbers) (list : List RecordNumbers) (promised array : List ℕ)
    → Unique (λ (r : CheckedNumbers). r ≡ checked_returned d s list promised array)
recording_unique d s list promised array = only (checked_returned d s list promised array)

pub recording_array_unique : (d : DeviceNumbers) (s : StateNumbers) (list : List RecordNumbers) (array : List ℕ)
    → Unique (λ (left : List ℕ). left ≡ array_checked d s list array)
recording_array_unique d s list array = only (array_checked d s list array)
