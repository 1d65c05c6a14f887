-- What is claimed of states, in one place.
use mathlib.Core.Path.{◌≡◌}
use mathlib.Core.Bool.{false, ◌||◌}
use Rattle.device.specs.declared.Device.{Device}
use Rattle.model_types.specs.declared.State.{State}
use Rattle.model_types.specs.declared.Wear.{Wear}
use Rattle.model_types.specs.Phases.{under_way}
use Rattle.model_states.specs.States.{improper, is_at_rest}
use Rattle.model_states.specs.Inner.{bad_mode, bad_status, bad_left, bad_address}
use Rattle.model_states.proofs.Proper as parts
use Rattle.model_states.proofs.Rest as rest

-- The code's tests of a state, part by part, are together `improper`.
pub improper_parts : (d : Device) (s : State)
    → improper d s ≡ (((bad_mode s.phase s.mode || bad_status s.phase s.status) || bad_left d s.phase s.left) || bad_address d s.phase s.address)
improper_parts = parts.improper_parts

-- A proper state with nothing under way is at rest.
pub proper_rests : (d : Device) (s : State) → improper d s ≡ false → under_way s.phase ≡ false → s ≡ is_at_rest s s.mode s.status
proper_rests = rest.proper_rests

-- Any count is proper: whether a state is does not depend on its counts.
pub any_count : (d : Device) (s : State) (w : Wear)
    → improper d (record { mode = s.mode; status = s.status; phase = s.phase; left = s.left; address = s.address; wear = w }) ≡ improper d s
any_count = parts.any_count
