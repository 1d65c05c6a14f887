-- What is claimed of numbers and what they stand for, in one place.
use mathlib.Core.Path.{◌≡◌}
use mathlib.Core.Bool.{true, false}
use lib.Dec.{ltb}
use Rattle.device.specs.declared.Part.{Part}
use Rattle.device.specs.declared.Device.{Device}
use Rattle.device.specs.Parts.{unknown_device}
use Rattle.model_types.specs.declared.Cycle.{Cycle}
use Rattle.model_types.specs.declared.Wear.{Wear}
use Rattle.model_types.specs.declared.State.{State}
use Rattle.model_states.specs.States.{improper}
use Rattle.model_levels.specs.Levels.{bad_levels}
use Rattle.c_cycle.specs.Values.{device_in, device_out, no_state, wear_in, wear_out, state_in, state_out, cycle_in, cycle_out}
use Rattle.c_cycle.specs.declared.DeviceNumbers.{DeviceNumbers}
use Rattle.c_cycle.specs.declared.WearNumbers.{WearNumbers}
use Rattle.c_cycle.specs.declared.StateNumbers.{StateNumbers}
use Rattle.c_cycle.specs.Answers.{state_back}
use Rattle.c_cycle.specs.declared.BusNumbers.{BusNumbers}
use Rattle.c_cycle.proofs.Border as border

-- There and back: every device, state, cycle and record has numbers, and these numbers stand for it.
pub device_back : (d : Device) → device_in (device_out d) ≡ d
device_back = border.device_back

pub wear_back : (w : Wear) → wear_in (wear_out w) ≡ w
wear_back = border.wear_back

pub state_back_lem : (s : State) → state_in (state_out s) ≡ s
state_back_lem = border.state_back_lem

pub cycle_back : (c : Cycle) → cycle_in (cycle_out c) ≡ c
cycle_back = border.cycle_back

-- Back and there: numbers that stand for something are the only numbers of it.
pub device_numbers : (n : DeviceNumbers) → ltb 1 n.word ≡ false → device_out (device_in n) ≡ n
device_numbers = border.device_numbers

pub wear_numbers : (n : WearNumbers) → wear_out (wear_in n) ≡ n
wear_numbers = border.wear_numbers

pub state_numbers : (n : StateNumbers) → no_state n ≡ false → state_out (state_in n) ≡ n
state_numbers = border.state_numbers

pub cycle_numbers : (n : BusNumbers) → ltb 2 n.kind ≡ false → cycle_out (cycle_in n) ≡ n
cycle_numbers = border.cycle_numbers

-- Numbers that stand for nothing meet the condition of their refusal: 1 for a mode that is neither 0 nor 1, 3 for a state on every device,
-- 4 for a kind, 3 for a record.
pub no_mode_refused : (n : DeviceNumbers) → ltb 1 n.word ≡ true → unknown_device (device_in n) ≡ true
no_mode_refused = border.no_mode_refused

pub no_state_improper : (n : StateNumbers) → no_state n ≡ true → (d : Device) → improper d (state_in n) ≡ true
no_state_improper = border.no_state_improper

pub no_kind_refused : (n : BusNumbers) → ltb 2 n.kind ≡ true → (part : Part) → bad_levels part (cycle_in n) ≡ true
no_kind_refused = border.no_kind_refused

-- A state that is left as it was goes back as the numbers that came, all of them, the counts too.
pub state_same : (n : StateNumbers) → state_back n (state_in n) ≡ n
state_same = border.state_same
