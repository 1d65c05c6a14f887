-- Two results that a promise of this crate allows are equal, and so is what it leaves in each thing lent.
use mathlib.Core.Path.{◌≡◌}
use mathlib.Core.List.{List}
use Prim.Native.Nat.{ℕ}
use Rattle.common.specs.Choice.{Unique}
use Rattle.common.proofs.Choice.{only}
use Rattle.loader_run.specs.declared.Ran.{Ran}
use Rattle.loader_run.specs.Runs.{lent_run}
use Rattle.loader_run.specs.declared.Job.{Job}
use Rattle.device.specs.declared.Part.{Part}
use Rattle.device.specs.Parts.{start_of}
use Rattle.units.specs.Address.{byte_of}
use Rattle.model_types.specs.declared.Pins.{Pins}
use Rattle.loader_quick.specs.declared.Made.{Made}
use Rattle.loader_quick.specs.Quick.{stuck_by, tested_left}
use mathlib.Core.Bool.{Bool, true, false}

pub run_quick_unique : (j : Job) (xs w sc : List ℕ) → Unique (λ (r : Ran). r ≡ (lent_run j xs w sc).ran)
run_quick_unique j xs w sc = only (lent_run j xs w sc).ran

pub run_quick_array_unique : (j : Job) (xs w sc : List ℕ) → Unique (λ (left : List ℕ). left ≡ (lent_run j xs w sc).bytes)
run_quick_array_unique j xs w sc = only (lent_run j xs w sc).bytes

pub run_quick_scratch_unique : (j : Job) (xs w sc : List ℕ) → Unique (λ (left : List ℕ). left ≡ (lent_run j xs w sc).scratch)
run_quick_scratch_unique j xs w sc = only (lent_run j xs w sc).scratch

pub is_stuck_unique : (part : Part) (p : Pins) (k : ℕ) → Unique (λ (r : Bool). r ≡ stuck_by part p k)
is_stuck_unique part p k = only (stuck_by part p k)

pub first_byte_unique : (part : Part) (k : ℕ) → Unique (λ (r : ℕ). r ≡ byte_of part.word (start_of part k))
first_byte_unique part k = only (byte_of part.word (start_of part k))

pub run_tested_unique : (j : Job) (xs w sc : List ℕ) → Unique (λ (r : Made). r ≡ (tested_left j xs w sc).made)
run_tested_unique j xs w sc = only (tested_left j xs w sc).made

pub run_tested_array_unique : (j : Job) (xs w sc : List ℕ) → Unique (λ (left : List ℕ). left ≡ (tested_left j xs w sc).bytes)
run_tested_array_unique j xs w sc = only (tested_left j xs w sc).bytes

pub run_tested_scratch_unique : (j : Job) (xs w sc : List ℕ) → Unique (λ (left : List ℕ). left ≡ (tested_left j xs w sc).scratch)
run_tested_scratch_unique j xs w sc = only (tested_left j xs w sc).scratch
