-- What a cycle's data are where they are a cell's.
use mathlib.Core.Path.{◌≡◌}
use Prim.Native.Nat.{◌≤◌}
use Rattle.units.proofs.Widths.{carried_cell}
use Rattle.device.specs.declared.Part.{Part}
use Rattle.model_types.specs.Cells.{ones}
use Rattle.model_types.specs.declared.Cycle.{Cycle}
use Rattle.model_actions.specs.Performed.{data_of}

-- a cell is carried whole
pub data_cell : (part : Part) (c : Cycle) → c.data ≤ ones part → data_of part c ≡ c.data
unfolding ones data_of
data_cell part c h = carried_cell part.word c.data h
