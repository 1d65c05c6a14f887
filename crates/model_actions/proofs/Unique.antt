-- Two results that a promise of this crate allows are equal.
use mathlib.Core.Path.{◌≡◌}
use Rattle.common.specs.Choice.{Unique}
use Rattle.common.proofs.Choice.{only}
use Rattle.device.specs.declared.Device.{Device}
use Rattle.model_types.specs.declared.Cycle.{Cycle}
use Rattle.model_types.specs.declared.State.{State}
use Rattle.model_types.specs.declared.Action.{Action}
use Rattle.model_actions.specs.Performed.{performed_of}

pub perform_unique : (a : Action) (d : Device) (c : Cycle) (s : State) → Unique (λ (r : State). r ≡ performed_of a d c s)
perform_unique a d c s = only (performed_of a d c s)
