use Rattle.loader_stores.proofs.Storing.{programmed_so, programmed_not}
use mathlib.Core.Path.{refl, sym, ◌∙◌}
use Rattle.loader_stores.proofs.store_program.Goals as goal

pub returns-then-programmed_well : goal.returns-then-programmed_well
returns-then-programmed_well c =
    let a = c.args in
    let e = c.put_unit in
    let g = c.get_unit-v in
    let t = sym c.programmed_well.ensures ∙ c.if-programmed_well.true in
    record { scratch_left = programmed_so a.word a.place a.b _ a.wanted.now a.scratch.now e.new.s t g.ensures.0 g.ensures.1 e.ensures.s_left; scratch_spare = e.ensures.s_spare }

pub returns-else-programmed_well : goal.returns-else-programmed_well
returns-else-programmed_well c =
    let a = c.args in
    record { scratch_left = programmed_not a.word a.place a.b a.wanted.now a.scratch.now (sym c.programmed_well.ensures ∙ c.if-programmed_well.false); scratch_spare = refl }
