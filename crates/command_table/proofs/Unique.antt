-- Two results that a promise of this crate allows are equal.
use mathlib.Core.Path.{◌≡◌}
use Rattle.common.specs.Choice.{Unique}
use Rattle.common.proofs.Choice.{only}
use Rattle.device.specs.declared.Part.{Part}
use Rattle.model_types.specs.declared.Phase.{Phase}
use Rattle.model_types.specs.declared.Action.{Action}
use Rattle.model_types.specs.declared.Cycle.{Cycle}
use Rattle.model_commands.specs.Commands.{command_of, action_of}

pub action_unique : (part : Part) (ph : Phase) (c : Cycle) → Unique (λ (r : Action). r ≡ action_of part ph (command_of c))
action_unique part ph c = only (action_of part ph (command_of c))
