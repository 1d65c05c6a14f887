-- Two results that a promise of this crate allows are equal, and so is what it leaves in each thing lent.
use mathlib.Core.Path.{◌≡◌}
use mathlib.Core.List.{List}
use Prim.Native.Nat.{ℕ}
use Rattle.common.specs.Choice.{Unique}
use Rattle.common.proofs.Choice.{only}
use Rattle.device.specs.declared.Device.{Device}
use Rattle.model_types.specs.declared.State.{State}
use Rattle.model_types.specs.declared.Cycle.{Cycle}
use Rattle.model.specs.declared.Answer.{Answer}
use Rattle.model.specs.Arrays.{answer_of, cycle_told, bytes_after}

pub cycle_unique : (d : Device) (s : State) (c : Cycle) (us rs : List ℕ) → Unique (λ (r : Answer). r ≡ answer_of d s c us rs)
cycle_unique d s c us rs = only (answer_of d s c us rs)

pub cycle_told_unique : (d : Device) (s : State) (c : Cycle) (us rs : List ℕ) → Unique (λ (told : ℕ × List ℕ). told ≡ cycle_told d s c us rs)
cycle_told_unique d s c us rs = only (cycle_told d s c us rs)

pub cycle_array_unique : (d : Device) (s : State) (c : Cycle) (array residue : List ℕ) → Unique (λ (left : List ℕ). left ≡ bytes_after d s c array residue)
cycle_array_unique d s c array residue = only (bytes_after d s c array residue)
