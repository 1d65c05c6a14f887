-- Two results that a promise of this crate allows are equal.
use mathlib.Core.Path.{◌≡◌}
use mathlib.Core.Bool.{Bool}
use Prim.Native.Nat.{ℕ}
use Rattle.common.specs.Choice.{Unique}
use Rattle.common.proofs.Choice.{only}
use Rattle.device.specs.declared.Part.{Part}
use Rattle.model_types.specs.declared.Cycle.{Cycle}
use Rattle.model_types.specs.declared.Phase.{Phase}
use Rattle.model_types.specs.declared.Action.{Action}
use Rattle.model_commands.specs.Commands.{command_of, action_of, is_refuse}

pub action_unique : (part : Part) (ph : Phase) (b : ℕ) → Unique (λ (r : Action). r ≡ action_of part ph b)
action_unique part ph b = only (action_of part ph b)

pub is_refuse_unique : (a : Action) → Unique (λ (r : Bool). r ≡ is_refuse a)
is_refuse_unique a = only (is_refuse a)

pub command_of_unique : (c : Cycle) → Unique (λ (r : ℕ). r ≡ command_of c)
command_of_unique c = only (command_of c)
