-- Two results that a promise of this crate allows are equal, and so is what it leaves in each thing lent.
use mathlib.Core.Path.{◌≡◌, sym, ◌∙◌}
use mathlib.Core.Bool.{Bool}
use mathlib.Core.List.{List}
use Prim.Native.Nat.{ℕ}
use Rattle.common.specs.Lists.{Bytes}
use Rattle.units.specs.Units.{units, spare}
use Rattle.units.proofs.Widths.{same_bytes}
use Rattle.common.specs.Choice.{Unique}
use Rattle.common.proofs.Choice.{only}
use Rattle.device.specs.declared.Part.{Part}
use Rattle.model_types.specs.declared.Pins.{Pins}
use Rattle.model_types.specs.declared.Cycle.{Cycle}
use Rattle.loader.specs.declared.Stage.{Stage}
use Rattle.loader.specs.declared.Loader.{Loader}
use Rattle.loader.specs.declared.Response.{Response}
use Rattle.loader_moves.specs.Moves.{next_of}
use Rattle.loader_steps.specs.Addresses.{first_address}
use Rattle.loader_steps.specs.Outs.{cycle_at_stage, cycle_of}
use Rattle.loader_stores.specs.Stores.{store_of}
use Rattle.loader_steps.specs.Front.{barred_pins, no_block, setup_number, record_at, end_address, start_response, step_response, start_told, step_told, scratch_left}
use Rattle.loader.specs.declared.Work.{Work}

pub barred_pins_unique : (part : Part) (p : Pins) → Unique (λ (r : Bool). r ≡ barred_pins part p)
barred_pins_unique part p = only (barred_pins part p)

pub no_block_unique : (part : Part) (k : ℕ) → Unique (λ (r : Bool). r ≡ no_block part k)
no_block_unique part k = only (no_block part k)

pub setup_number_unique : (part : Part) (p : Pins) (k w sc : ℕ) → Unique (λ (r : ℕ). r ≡ setup_number part p k w sc)
setup_number_unique part p k w sc = only (setup_number part p k w sc)

pub record_at_unique : (part : Part) (p : Pins) (k : ℕ) (stage : Stage) (verify : Bool) → Unique (λ (r : Loader). r ≡ record_at part p k stage verify)
record_at_unique part p k stage verify = only (record_at part p k stage verify)

pub end_address_unique : (l : Loader) (n : ℕ) → Unique (λ (r : ℕ). r ≡ end_address l n)
end_address_unique l n = only (end_address l n)

pub start_unique : (work : Work) (part : Part) (p : Pins) (k : ℕ) (w sc : List ℕ) → Unique (λ (r : Response). r ≡ start_response work part p k w sc)
start_unique work part p k w sc = only (start_response work part p k w sc)

pub start_told_unique : (work : Work) (part : Part) (p : Pins) (k : ℕ) (w sc : List ℕ) → Unique (λ (told : ℕ × List Cycle × List ℕ). told ≡ start_told work part p k w sc)
start_told_unique work part p k w sc = only (start_told work part p k w sc)

pub step_unique : (l : Loader) (b : ℕ) (w sc : List ℕ) → Unique (λ (r : Response). r ≡ step_response l b w sc)
step_unique l b w sc = only (step_response l b w sc)

pub step_told_unique : (l : Loader) (b : ℕ) (w sc : List ℕ) → Unique (λ (told : ℕ × List Cycle × List ℕ). told ≡ step_told l b w sc)
step_told_unique l b w sc = only (step_told l b w sc)

pub step_scratch_unique : (l : Loader) (b : ℕ) (w sc : List ℕ) → Unique (λ (left : List ℕ). left ≡ scratch_left l b w sc)
step_scratch_unique l b w sc = only (scratch_left l b w sc)

pub first_unique : (l : Loader) → Unique (λ (r : ℕ). r ≡ first_address l)
first_unique l = only (first_address l)

pub cycle_in_unique : (stage : Stage) (first here : ℕ) (l : Loader) (w : List ℕ) → Unique (λ (r : Cycle). r ≡ cycle_at_stage stage first here l w)
cycle_in_unique stage first here l w = only (cycle_at_stage stage first here l w)

pub out_unique : (l : Loader) (w : List ℕ) → Unique (λ (r : Cycle). r ≡ cycle_of l w)
out_unique l w = only (cycle_of l w)
