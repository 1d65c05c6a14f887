-- From what a cycle answers to the numbers that a C function gives.
use mathlib.Core.Path.{◌≡◌, ap, ◌∙◌}
use mathlib.Core.List.{List}
use Prim.Native.Nat.{ℕ}
use Rattle.device.specs.declared.Device.{Device}
use Rattle.units.specs.Units.{units, lent}
use Rattle.model_types.specs.declared.Cycle.{Cycle}
use Rattle.model_types.specs.declared.State.{State}
use Rattle.model.specs.declared.Answer.{Answer}
use Rattle.model.specs.Arrays.{answer_of, bytes_after}
use Rattle.c_cycle.specs.Values.{device_in, state_in, cycle_in}
use Rattle.c_cycle.specs.Answers.{answer_out, cycled, array_cycled}
use Rattle.c_cycle.specs.declared.AnswerNumbers.{AnswerNumbers}
use Rattle.c_cycle.specs.declared.BusNumbers.{BusNumbers}
use Rattle.c_cycle.specs.declared.DeviceNumbers.{DeviceNumbers}
use Rattle.c_cycle.specs.declared.StateNumbers.{StateNumbers}

-- values that stand for the numbers, an engine's answer and bytes for them, and that answer's numbers
pub cycle_given : (d : DeviceNumbers) (s : StateNumbers) (c : BusNumbers) (xs rs : List ℕ) (dv : Device) (sv : State) (cv : Cycle) (a : Answer) (left : List ℕ) (out : AnswerNumbers)
    → dv ≡ device_in d → sv ≡ state_in s → cv ≡ cycle_in c → a ≡ answer_of dv sv cv (lent dv.part.word xs) (units dv.part.word rs)
    → left ≡ bytes_after dv sv cv xs rs → out ≡ answer_out s a → (out ≡ cycled d s c xs rs) × (left ≡ array_cycled d s c xs rs)
unfolding cycled array_cycled
cycle_given d s c xs rs dv sv cv a left out e f g h l o =
    let q : a ≡ answer_of (device_in d) (state_in s) (cycle_in c) (lent (device_in d).part.word xs) (units (device_in d).part.word rs) =
    h ∙ (λ i. answer_of (e i) (f i) (g i) (lent (e i).part.word xs) (units (e i).part.word rs)) in
    (o ∙ ap (λ (x : Answer). answer_out s x) q, l ∙ (λ i. bytes_after (e i) (f i) (g i) xs rs))
