use Rattle.units.specs.Units.{units}
use Rattle.units.proofs.Widths.{units_length, erased_there}
use Rattle.loader_stores.proofs.Storing.{erased_so, erased_not}
use native.Mathlib.Omega.{arith}
use mathlib.Core.Path.{refl, sym, ◌∙◌}
use Rattle.loader_stores.proofs.store_erase.Goals as goal

pub returns-then-erased_well : goal.returns-then-erased_well
returns-then-erased_well c =
    let a = c.args in
    let e = c.erase_units in
    let t = sym c.erased_well.ensures ∙ c.if-erased_well.true in
    let n = c.units_in-n in
    let us = units a.part.word a.scratch.now in
    let h = erased_there a.part.word 0 n.result us (omega (arith, n.ensures, units_length a.part.word a.scratch.now)) in
    record { scratch_left = erased_so a.part a.b n.result a.scratch.now e.new.s t n.ensures (e.ensures.s_left ∙ h); scratch_spare = e.ensures.s_spare }

pub returns-else-erased_well : goal.returns-else-erased_well
returns-else-erased_well c =
    let a = c.args in
    record { scratch_left = erased_not a.part a.b a.scratch.now (sym c.erased_well.ensures ∙ c.if-erased_well.false); scratch_spare = refl }
