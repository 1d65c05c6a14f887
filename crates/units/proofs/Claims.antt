-- What is claimed of units, in one place.
use Prim.Native.Nat.{ℕ, ◌≤◌, ◌<◌}
use mathlib.Core.Path.{◌≡◌}
use mathlib.Core.Bool.{Bool}
use mathlib.Core.List.{List, ◌++◌}
use lib.ListN.{length, get_or}
use Rattle.common.specs.Lists.{Bytes}
use Rattle.units.specs.Units.{units, spare, back, bytes_in, lent, top}
use Rattle.units.proofs.Widths as widths

-- Units come back from their bytes, and lent bytes from their units and the byte that is in none.
pub units_of_bytes : (w : Bool) (us : List ℕ) → units w (back w us) ≡ us
units_of_bytes = widths.units_back

pub bytes_of_units : (w : Bool) (xs : List ℕ) → Bytes xs → back w (units w xs) ++ spare w xs ≡ xs
bytes_of_units = widths.all_bytes

-- Bytes that are lent and have units are a whole number of units: twice as many in word mode.
pub lent_bytes : (w : Bool) (xs : List ℕ) → 0 < length (lent w xs) → length xs ≡ bytes_in w (length (units w xs))
lent_bytes w xs h = widths.whole w xs (widths.lent_whole w xs h)

-- Every unit of lent bytes is at most all ones.
pub units_are_cells : (w : Bool) (xs : List ℕ) → Bytes xs → (i : ℕ) → get_or (units w xs) i 0 ≤ top w
units_are_cells = widths.cells
