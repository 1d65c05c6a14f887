use mathlib.Core.Path.{sym, ◌∙◌}
use Rattle.units.proofs.Widths.{units_length}
use Rattle.loader_walk.proofs.units_of.Goals as goal

pub returns : goal.returns
returns c =
    let a = c.args in
    c.units_in.ensures ∙ sym (units_length a.word a.s.now)
