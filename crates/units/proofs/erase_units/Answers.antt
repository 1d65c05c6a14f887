use mathlib.Core.Path.{refl, sym, ◌∙◌}
use Rattle.units.specs.Units.{units}
use Rattle.units.proofs.Widths.{there, there_if, erased_there, erased_past}
use Rattle.units.proofs.erase_units.Goals as goal

pub erase_there-requires : goal.erase_there-requires
erase_there-requires c =
    let s = c.args in
    let t = c.lies_in in
    there s.a s.n (units s.word s.s.now) (sym (there_if s.word s.s.now s.a s.n _ t.result c.units_in.ensures t.ensures) ∙ c.if-lies_in.true)

pub returns-then-lies_in : goal.returns-then-lies_in
returns-then-lies_in c =
    let s = c.args in
    let t = c.lies_in in
    let us = units s.word s.s.now in
    let h = there s.a s.n us (sym (there_if s.word s.s.now s.a s.n _ t.result c.units_in.ensures t.ensures) ∙ c.if-lies_in.true) in
    record { s_left = c.erase_there.ensures.s_left ∙ sym (erased_there s.word s.a s.n us h); s_spare = c.erase_there.ensures.s_spare }

pub returns : goal.returns
returns c =
    let s = c.args in
    let t = c.lies_in in
    let us = units s.word s.s.now in
    record { s_left = erased_past s.word s.a s.n us (sym (there_if s.word s.s.now s.a s.n _ t.result c.units_in.ensures t.ensures) ∙ c.if-lies_in.false); s_spare = refl }
