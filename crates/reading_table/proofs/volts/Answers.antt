-- `reading_table::volts` meets its contract.
use mathlib.Core.Path.{sym}
use Rattle.reading_table.proofs.Places.{volts_past}
use Rattle.reading_table.proofs.volts.Goals as goal

pub returns : goal.returns
returns c = sym (volts_past _ _ c.if-i-s.false)
