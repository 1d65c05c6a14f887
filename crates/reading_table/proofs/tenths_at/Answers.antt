-- `reading_table::tenths_at` meets its contract.
use mathlib.Core.Path.{◌∙◌}
use native.Mathlib.Omega.{arith}
use mir.Syntax.{w16}
use mir.ValLaws.{to_z-of_z}
use Rattle.reading_table.proofs.Places.{tenths_read}
use Rattle.reading_table.proofs.tenths_at.Goals as goal

pub returns : goal.returns
returns c =
    let f = c.from_be_bytes in
    to_z-of_z w16 f.result (record { sfits = f.type_inv }) ∙ f.ensures ∙ tenths_read _ _ _ c.requires c.type_inv.s (omega arith)
