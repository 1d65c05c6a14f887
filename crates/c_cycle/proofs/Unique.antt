-- Two results that a promise of this crate allows are equal, and so is what it leaves in each thing lent.
use mathlib.Core.Path.{◌≡◌}
use mathlib.Core.Bool.{Bool}
use Prim.Native.Nat.{ℕ}
use Rattle.common.specs.Choice.{Unique}
use Rattle.common.proofs.Choice.{only}
use Rattle.device.specs.declared.Part.{Part}
use Rattle.device.specs.declared.Device.{Device}
use Rattle.model_types.specs.declared.Pins.{Pins}
use Rattle.model_types.specs.declared.Cycle.{Cycle}
use Rattle.model_types.specs.declared.Phase.{Phase}
use Rattle.model_types.specs.declared.Wear.{Wear}
use Rattle.model_types.specs.declared.State.{State}
use Rattle.model.specs.declared.Answer.{Answer}
use Rattle.c_cycle.specs.Values.{part_in, flag_out, device_in, pins_in, phase_in, wear_in, wear_out, state_in, state_out, cycle_in, cycle_out}
use Rattle.c_cycle.specs.Answers.{state_back, answer_out}
use Rattle.c_cycle.specs.declared.DeviceNumbers.{DeviceNumbers}
use Rattle.c_cycle.specs.declared.WearNumbers.{WearNumbers}
use Rattle.c_cycle.specs.declared.StateNumbers.{StateNumbers}
use Rattle.c_cycle.specs.declared.BusNumbers.{BusNumbers}
use Rattle.c_cycle.specs.declared.AnswerNumbers.{AnswerNumbers}

pub device_in_unique : (n : DeviceNumbers) → Unique (λ (r : Device). r ≡ device_in n)
device_in_unique n = only (device_in n)

pub part_in_unique : (number word : ℕ) → Unique (λ (r : Part). r ≡ part_in number word)
part_in_unique number word = only (part_in number word)

pub flag_out_unique : (flag : Bool) → Unique (λ (r : ℕ). r ≡ flag_out flag)
flag_out_unique flag = only (flag_out flag)

pub pins_in_unique : (rp wp vpp : ℕ) → Unique (λ (r : Pins). r ≡ pins_in rp wp vpp)
pins_in_unique rp wp vpp = only (pins_in rp wp vpp)

pub phase_in_unique : (n unit suspend : ℕ) → Unique (λ (r : Phase). r ≡ phase_in n unit suspend)
phase_in_unique n unit suspend = only (phase_in n unit suspend)

pub wear_in_unique : (n : WearNumbers) → Unique (λ (r : Wear). r ≡ wear_in n)
wear_in_unique n = only (wear_in n)

pub wear_out_unique : (w : Wear) → Unique (λ (r : WearNumbers). r ≡ wear_out w)
wear_out_unique w = only (wear_out w)

pub state_in_unique : (n : StateNumbers) → Unique (λ (r : State). r ≡ state_in n)
state_in_unique n = only (state_in n)

pub state_out_unique : (s : State) → Unique (λ (r : StateNumbers). r ≡ state_out s)
state_out_unique s = only (state_out s)

pub cycle_in_unique : (n : BusNumbers) → Unique (λ (r : Cycle). r ≡ cycle_in n)
cycle_in_unique n = only (cycle_in n)

pub answer_out_unique : (n : StateNumbers) (a : Answer) → Unique (λ (r : AnswerNumbers). r ≡ answer_out n a)
answer_out_unique n a = only (answer_out n a)

pub state_back_unique : (n : StateNumbers) (s : State) → Unique (λ (r : StateNumbers). r ≡ state_back n s)
state_back_unique n s = only (state_back n s)

pub cycle_out_unique : (c : Cycle) → Unique (λ (r : BusNumbers). r ≡ cycle_out c)
cycle_out_unique c = only (cycle_out c)
