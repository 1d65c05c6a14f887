-- Both engines agree on every cycle, state and lent array.
use mathlib.Core.Path.{◌≡◌}
use mathlib.Core.List.{List}
use Prim.Native.Nat.{ℕ}
use Rattle.units.specs.Units.{units, lent}
use Rattle.device.specs.declared.Device.{Device}
use Rattle.model_types.specs.declared.Cycle.{Cycle}
use Rattle.model_types.specs.declared.State.{State}
use Rattle.model.specs.Arrays.{answer_of, bytes_after}
use Rattle.table_engine.specs.Engine.{table_answer, table_bytes}
use Rattle.table_engine.proofs.Agree.{same_answer, same_bytes}

-- what the host sees, the state with its counts of erases, and the lent bytes are the same: for any device number and width, any state,
-- improper ones too, any cycle, lent array and residue of any lengths, refusals too
pub engines_agree : (d : Device) (s : State) (c : Cycle) (array residue : List ℕ)
    → (table_answer d s c (lent d.part.word array) (units d.part.word residue)
    ≡ answer_of d s c (lent d.part.word array) (units d.part.word residue))
    × (table_bytes d s c array residue ≡ bytes_after d s c array residue)
engines_agree d s c array residue =
    (same_answer d s c (lent d.part.word array) (units d.part.word residue), same_bytes d s c array residue)
