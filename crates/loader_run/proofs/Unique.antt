-- Two results that a promise of this crate allows are equal, and so is what it leaves in each thing lent.
use mathlib.Core.Path.{◌≡◌}
use mathlib.Core.List.{List}
use Prim.Native.Nat.{ℕ}
use Rattle.common.specs.Choice.{Unique}
use Rattle.common.proofs.Choice.{only}
use Rattle.loader.specs.declared.Loader.{Loader}
use Rattle.loader_steps.specs.Front.{record_of}
use Rattle.loader_run.specs.declared.Ran.{Ran}
use Rattle.loader_run.specs.Runs.{run_number, lent_run}
use Rattle.loader_run.specs.declared.Job.{Job}
use mathlib.Core.Bool.{true, false}

pub record_for_unique : (j : Job) → Unique (λ (r : Loader). r ≡ record_of j.work j.device.part j.pins j.block)
record_for_unique j = only (record_of j.work j.device.part j.pins j.block)

pub run_unique : (j : Job) (xs w sc : List ℕ) → Unique (λ (r : Ran). r ≡ (lent_run j xs w sc).ran)
run_unique j xs w sc = only (lent_run j xs w sc).ran

pub run_array_unique : (j : Job) (xs w sc : List ℕ) → Unique (λ (left : List ℕ). left ≡ (lent_run j xs w sc).bytes)
run_array_unique j xs w sc = only (lent_run j xs w sc).bytes

pub run_scratch_unique : (j : Job) (xs w sc : List ℕ) → Unique (λ (left : List ℕ). left ≡ (lent_run j xs w sc).scratch)
run_scratch_unique j xs w sc = only (lent_run j xs w sc).scratch

pub run_number_unique : (j : Job) (array w sc : ℕ) → Unique (λ (r : ℕ). r ≡ run_number j array w sc)
run_number_unique j array w sc = only (run_number j array w sc)
