-- Two results that a promise of this crate allows are equal.
use mathlib.Core.Path.{◌≡◌}
use Prim.Native.Nat.{ℕ}
use Rattle.common.specs.Choice.{Unique}
use Rattle.common.proofs.Choice.{only}
use Rattle.device.specs.declared.Device.{Device}
use Rattle.model_types.specs.declared.State.{State}
use Rattle.model_types.specs.declared.Cycle.{Cycle}
use Rattle.model_judge.specs.Judging.{judge_of}

pub judge_unique : (d : Device) (s : State) (c : Cycle) (array residue : ℕ) → Unique (λ (r : ℕ). r ≡ judge_of d s c array residue)
judge_unique d s c array residue = only (judge_of d s c array residue)
