-- All ones keep any cell.
use mathlib.Core.Path.{◌≡◌, ◌∙◌}
use mathlib.Core.Bool.{Bool, true, false}
use Prim.Native.Nat.{ℕ, ◌≤◌, ◌<◌}
use native.Mathlib.Nat.{mod-eq_of_lt}
use native.Mathlib.Omega.{arith}
use lib.Bits.{bit_and, and_comm, and_mask}
use Rattle.units.specs.Units.{top}
use Rattle.device.specs.declared.Part.{Part}
use Rattle.model_types.specs.Cells.{ones}

and_top : (w : Bool) (v : ℕ) → v ≤ top w → bit_and (top w) v ≡ v
and_top false v h = and_comm 255 v ∙ and_mask v 8 ∙ mod-eq_of_lt (omega arith)
and_top true v h = and_comm 65535 v ∙ and_mask v 16 ∙ mod-eq_of_lt (omega arith)

pub and_ones : (part : Part) (v : ℕ) → v ≤ ones part → bit_and (ones part) v ≡ v
unfolding ones
and_ones part v h = and_top part.word v h

-- a cell is below 2 to the 16
pub ones_small : (part : Part) → ones part < 65536
unfolding ones
ones_small part = go part.word
  where
    go : (w : Bool) → top w < 65536
    go false = omega arith
    go true = omega arith
