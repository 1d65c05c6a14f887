-- `reading_table::volts_at` meets its contract.
use mathlib.Core.Path.{◌∙◌}
use native.Mathlib.Omega.{arith}
use mir.Syntax.{w32}
use mir.ValLaws.{to_z-of_z}
use Rattle.reading_table.proofs.Places.{volts_read}
use Rattle.reading_table.proofs.volts_at.Goals as goal

pub returns : goal.returns
returns c =
    let f = c.from_be_bytes in
    to_z-of_z w32 f.result (record { sfits = f.type_inv }) ∙ f.ensures ∙ volts_read _ _ _ c.requires c.type_inv.s (omega arith)
