use Rattle.units.specs.Units.{units}
use mathlib.Core.Path.{◌∙◌}
use Rattle.units.proofs.Widths.{left_there}
use Rattle.model.proofs.Overlay.{inside, enough, left_over}
use Rattle.model.proofs.cut_erase.Goals as goal

pub returns : goal.returns
returns c =
    let a = c.args in
    let start = c.start in
    let long = c.length in
    let us = units a.part.word a.array.now in
    let rs = units a.part.word a.residue.now in
    let h = inside a.part a.k us start.result long.result start.ensures long.ensures c.requires.0 in
    let l = enough a.part a.k us start.result long.result start.ensures long.ensures _ c.requires.1 in
    record { array_left = left_over a.part a.k us start.result long.result start.ensures long.ensures rs _ (c.leave_units.ensures.s_left ∙ left_there start.result long.result rs us h l); array_spare = c.leave_units.ensures.s_spare }
