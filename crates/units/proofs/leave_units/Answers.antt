use mathlib.Core.Path.{refl, sym, ◌∙◌}
use Rattle.units.specs.Units.{units}
use Rattle.units.proofs.Widths.{both_there, residue_if, left_there, left_past}
use Rattle.units.proofs.leave_units.Goals as goal

pub leave_there-requires : goal.leave_there-requires
leave_there-requires c =
    let s = c.args in
    both_there s.a s.n (units s.word s.residue.now) (units s.word s.s.now)
    (sym (residue_if s.word s.s.now s.residue.now s.a s.n _ _ _ c.units_in.ensures c.lies_in.ensures c.units_in-2.ensures) ∙ c.if-lies_in-n.true)

pub returns-then-lies_in-n : goal.returns-then-lies_in-n
returns-then-lies_in-n c =
    let s = c.args in
    let us = units s.word s.s.now in
    let rs = units s.word s.residue.now in
    let h = both_there s.a s.n rs us (sym (residue_if s.word s.s.now s.residue.now s.a s.n _ _ _ c.units_in.ensures c.lies_in.ensures c.units_in-2.ensures) ∙ c.if-lies_in-n.true) in
    record { s_left = c.leave_there.ensures.s_left ∙ sym (left_there s.a s.n rs us h.0 h.1); s_spare = c.leave_there.ensures.s_spare }

pub returns : goal.returns
returns c =
    let s = c.args in
    let us = units s.word s.s.now in
    let rs = units s.word s.residue.now in
    record { s_left = left_past s.a s.n rs us (sym (residue_if s.word s.s.now s.residue.now s.a s.n _ _ _ c.units_in.ensures c.lies_in.ensures c.units_in-2.ensures) ∙ c.if-lies_in-n.false); s_spare = refl }
