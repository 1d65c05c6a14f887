-- Two results that a promise of this crate allows are equal, and so is what it leaves in each thing lent.
use mathlib.Core.Path.{◌≡◌}
use mathlib.Core.List.{List}
use Prim.Native.Nat.{ℕ}
use Rattle.common.specs.Choice.{Unique}
use Rattle.common.proofs.Choice.{only}
use Rattle.loader_run.specs.declared.Ran.{Ran}
use Rattle.loader_run.specs.declared.Job.{Job}
use Rattle.loader_from_file.specs.Loads.{file_number, load_left}

pub file_number_unique : (f : List ℕ) (asked n : ℕ) → Unique (λ (r : ℕ). r ≡ file_number f asked n)
file_number_unique f asked n = only (file_number f asked n)

pub load_unique : (j : Job) (xs w sc f : List ℕ) (asked : ℕ) → Unique (λ (r : Ran). r ≡ (load_left j xs w sc f asked).ran)
load_unique j xs w sc f asked = only (load_left j xs w sc f asked).ran

pub load_array_unique : (j : Job) (xs w sc f : List ℕ) (asked : ℕ) → Unique (λ (left : List ℕ). left ≡ (load_left j xs w sc f asked).bytes)
load_array_unique j xs w sc f asked = only (load_left j xs w sc f asked).bytes

pub load_wanted_unique : (j : Job) (xs w sc f : List ℕ) (asked : ℕ) → Unique (λ (left : List ℕ). left ≡ (load_left j xs w sc f asked).wanted)
load_wanted_unique j xs w sc f asked = only (load_left j xs w sc f asked).wanted

pub load_scratch_unique : (j : Job) (xs w sc f : List ℕ) (asked : ℕ) → Unique (λ (left : List ℕ). left ≡ (load_left j xs w sc f asked).scratch)
load_scratch_unique j xs w sc f asked = only (load_left j xs w sc f asked).scratch
