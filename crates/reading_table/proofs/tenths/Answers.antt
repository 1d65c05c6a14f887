-- `reading_table::tenths` meets its contract.
use mathlib.Core.Path.{sym}
use Rattle.reading_table.proofs.Places.{tenths_past}
use Rattle.reading_table.proofs.tenths.Goals as goal

pub returns : goal.returns
returns c = sym (tenths_past _ _ c.if-i-s.false)
