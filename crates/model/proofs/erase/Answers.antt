use Rattle.units.specs.Units.{units}
use mathlib.Core.Path.{◌∙◌}
use Rattle.units.proofs.Widths.{erased_there}
use Rattle.model.proofs.Overlay.{inside, filled}
use Rattle.model.proofs.erase.Goals as goal

pub returns : goal.returns
returns c =
    let a = c.args in
    let start = c.start in
    let long = c.length in
    let us = units a.part.word a.array.now in
    let h = inside a.part a.k us start.result long.result start.ensures long.ensures c.requires in
    record { array_left = filled a.part a.k us start.result long.result start.ensures long.ensures _ (c.erase_units.ensures.s_left ∙ erased_there a.part.word start.result long.result us h); array_spare = c.erase_units.ensures.s_spare }
