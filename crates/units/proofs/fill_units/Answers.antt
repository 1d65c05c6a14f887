use Rattle.units.proofs.Widths.{fill_law}
use Rattle.units.proofs.fill_units.Goals as goal

pub returns : goal.returns
returns c =
    let a = c.args in
    record { s_left = fill_law a.word a.s.now _ c.fill.ensures; s_filled = c.fill.ensures }
