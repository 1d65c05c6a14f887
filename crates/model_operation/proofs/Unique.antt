-- Two results that a promise of this crate allows are equal, and so is what it leaves in each thing lent.
use mathlib.Core.Path.{◌≡◌}
use Prim.Native.Nat.{ℕ}
use Rattle.common.specs.Choice.{Unique}
use Rattle.common.proofs.Choice.{only}
use Rattle.device.specs.declared.Part.{Part}
use Rattle.model_types.specs.declared.Pins.{Pins}
use Rattle.model_types.specs.declared.State.{State}
use Rattle.model_types.specs.declared.Phase.{Phase}
use Rattle.model_types.specs.declared.Settled.{Settled}
use Rattle.model_operation.specs.Settling.{residue_for, settle_of}

pub residue_for_unique : (ph : Phase) (part : Part) (a : ℕ) → Unique (λ (r : ℕ). r ≡ residue_for ph part a)
residue_for_unique ph part a = only (residue_for ph part a)

pub settle_unique : (part : Part) (s : State) (p : Pins) → Unique (λ (r : Settled). r ≡ settle_of part s p)
settle_unique part s p = only (settle_of part s p)
