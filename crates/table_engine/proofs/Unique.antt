-- Two results that a promise of this crate allows are equal, and so is what it leaves in each thing lent.
use mathlib.Core.Path.{◌≡◌}
use mathlib.Core.List.{List}
use Prim.Native.Nat.{ℕ}
use Rattle.common.specs.Choice.{Unique}
use Rattle.common.proofs.Choice.{only}
use Rattle.device.specs.declared.Device.{Device}
use Rattle.model_types.specs.declared.State.{State}
use Rattle.model_types.specs.declared.Cycle.{Cycle}
use Rattle.model.specs.declared.Answer.{Answer}
use Rattle.table_engine.specs.Engine.{table_answer, table_told, table_bytes}

pub cycle_unique : (d : Device) (s : State) (c : Cycle) (us rs : List ℕ) → Unique (λ (r : Answer). r ≡ table_answer d s c us rs)
cycle_unique d s c us rs = only (table_answer d s c us rs)

pub cycle_told_unique : (d : Device) (s : State) (c : Cycle) (us rs : List ℕ) → Unique (λ (told : ℕ × List ℕ). told ≡ table_told d s c us rs)
cycle_told_unique d s c us rs = only (table_told d s c us rs)

pub cycle_array_unique : (d : Device) (s : State) (c : Cycle) (array residue : List ℕ) → Unique (λ (left : List ℕ). left ≡ table_bytes d s c array residue)
cycle_array_unique d s c array residue = only (table_bytes d s c array residue)
