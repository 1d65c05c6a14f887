-- Two results that a promise of this crate allows are equal, and so is what it leaves in the array.
use mathlib.Core.Path.{◌≡◌}
use mathlib.Core.List.{List}
use Prim.Native.Nat.{ℕ}
use Rattle.common.specs.Choice.{Unique}
use Rattle.common.proofs.Choice.{only}
use Rattle.c_cycle.specs.Answers.{cycled, array_cycled}
use Rattle.c_cycle.specs.declared.DeviceNumbers.{DeviceNumbers}
use Rattle.c_cycle.specs.declared.StateNumbers.{StateNumbers}
use Rattle.c_cycle.specs.declared.BusNumbers.{BusNumbers}
use Rattle.c_cycle.specs.declared.AnswerNumbers.{AnswerNumbers}

pub other_cycle_unique : (d : DeviceNumbers) (s : StateNumbers) (c : BusNumbers) (xs rs : List ℕ)
    → Unique (λ (r : AnswerNumbers). r ≡ cycled d s c xs rs)
other_cycle_unique d s c xs rs = only (cycled d s c xs rs)

pub other_cycle_array_unique : (d : DeviceNumbers) (s : StateNumbers) (c : BusNumbers) (xs rs : List ℕ)
    → Unique (λ (left : List ℕ). left ≡ array_cycled d s c xs rs)
other_cycle_array_unique d s c xs rs = only (array_cycled d s c xs rs)
