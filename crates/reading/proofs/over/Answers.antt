use mathlib.Core.Path.{ap₂, ◌∙◌}
use lib.Signed.{lt_z}
use mir.Syntax.{w32}
use mir.ValLaws.{to_z-of_z}
use Rattle.reading.proofs.over.Goals as goal

pub returns : goal.returns
returns c = ap₂ lt_z (to_z-of_z w32 c.volts-v.result (record { sfits = c.volts-v.type_inv }) ∙ c.volts-v.ensures) (to_z-of_z w32 c.args.x c.ranges.x)
