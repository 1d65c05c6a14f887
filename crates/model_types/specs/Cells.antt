-- An erased cell, and lists of cells.
use Rattle.std.specs.Prelude.{List, ℕ, ◌≤◌, get_or}
use Rattle.units.specs.Units.{top}
use Rattle.device.specs.declared.Part.{Part}

-- an erased cell of a part: all ones of a byte, or in word mode of a word (R-cycle-5)
unfoldable pub ones : Part → ℕ
ones part = top part.word

-- every cell is at most all ones
abbrev pub Cells : Part → List ℕ → Type 0
Cells part xs = (i : ℕ) → get_or xs i 0 ≤ ones part
