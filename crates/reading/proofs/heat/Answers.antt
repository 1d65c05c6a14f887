use mathlib.Core.Path.{ap, ◌∙◌}
use lib.Ieee.{of_int, binary64}
use mir.Syntax.{w16}
use mir.ValLaws.{to_z-of_z}
use Rattle.reading.proofs.heat.Goals as goal

pub returns : goal.returns
returns c = ap (of_int binary64) (to_z-of_z w16 c.tenths-t.result (record { sfits = c.tenths-t.type_inv }) ∙ c.tenths-t.ensures)
