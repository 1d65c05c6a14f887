use mathlib.Core.Path.{◌∙◌}
use mir.Syntax.{w16, w32}
use mir.ValLaws.{to_z-of_z}
use Rattle.reading_pair.specs.Pairs.{pair_of}
use Rattle.reading.specs.Readings.{pair_at}
use Rattle.reading.proofs.pair_at.Goals as goal

pub returns : goal.returns
unfolding pair_at
returns c = c.pair_of.ensures ∙ (λ j. pair_of ((to_z-of_z w32 c.volts-x0.result (record { sfits = c.volts-x0.type_inv }) ∙ c.volts-x0.ensures) j) ((to_z-of_z w16 c.tenths-t0.result (record { sfits = c.tenths-t0.type_inv }) ∙ c.tenths-t0.ensures) j) ((to_z-of_z w32 c.volts-x1.result (record { sfits = c.volts-x1.type_inv }) ∙ c.volts-x1.ensures) j) ((to_z-of_z w16 c.tenths-t1.result (record { sfits = c.tenths-t1.type_inv }) ∙ c.tenths-t1.ensures) j))
