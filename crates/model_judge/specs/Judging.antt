-- Refusals 1 to 6 of a cycle. Addresses are those of units, and the lengths of the array and the residue are counted in units.
use Rattle.std.specs.Prelude.{Bool, not, ◌&&◌, ◌||◌, List, [], ◌∷◌, ℕ, eqb, ltb, leb}
use Rattle.common.specs.Numbers.{Row, row, given}
use Rattle.device.specs.Parts.{unknown_device, size_of}
use Rattle.device.specs.declared.Part.{Part}
use Rattle.device.specs.declared.Device.{Device}
use Rattle.model_types.specs.declared.State.{State}
use Rattle.model_types.specs.declared.Cycle.{Cycle}
use Rattle.model_types.specs.Kinds.{is_idle}
use Rattle.model_levels.specs.Levels.{rp_low, vpp_low, bad_levels}
use Rattle.model_states.specs.States.{improper}
use Rattle.model_operation.specs.Settling.{residue_for}

-- refusal 5: the address is past the array; not asked with RP# low, nor of an idle cycle (R-number-5)
unfoldable pub past_array : Part → Cycle → Bool
past_array part c = (leb (size_of part) c.address && not (rp_low c.pins)) && not (is_idle c.kind)

-- refusal 6: the cycle cuts an operation, and the residue is too short for it (R-number-6)
unfoldable pub short_residue : Part → State → Cycle → ℕ → Bool
short_residue part s c residue = (rp_low c.pins || vpp_low part c.pins) && ltb residue (residue_for s.phase part s.address)

-- refusals 1 to 6, each by its own condition (R-number-2, R-order-1)
abbrev pub early : Device → State → Cycle → ℕ → ℕ → List Row
early d s c array residue =
    row 1 (unknown_device d)
    ∷ row 2 (not (eqb array (size_of d.part)))
    ∷ row 3 (improper d s)
    ∷ row 4 (bad_levels d.part c)
    ∷ row 5 (past_array d.part c)
    ∷ row 6 (short_residue d.part s c residue)
    ∷ []

-- the number of refusals 1 to 6 alone, 0 where none of them applies
unfoldable pub judge_of : Device → State → Cycle → ℕ → ℕ → ℕ
judge_of d s c array residue = given (early d s c array residue)
