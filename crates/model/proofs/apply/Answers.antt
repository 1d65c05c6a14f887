use Rattle.units.specs.Units.{units}
use Prim.Native.Nat.{ℕ, ◌<◌}
use mathlib.Core.Path.{subst, refl, sym, ◌∙◌}
use lib.ListN.{length}
use Rattle.model_types.specs.declared.Effect.{Effect}
use Rattle.model.specs.Inner.{Within}
use Rattle.model.proofs.apply.Goals as goal

pub erase-requires : goal.erase-requires
erase-requires c =
    let a = c.args in
    subst (λ (e : Effect). Within e a.part (length (units a.part.word a.array.now)) (length (units a.part.word a.residue.now))) c.in-Erase.is c.requires

pub cut_program-requires : goal.cut_program-requires
cut_program-requires c =
    let a = c.args in
    subst (λ (m : ℕ). m < length (units a.part.word a.array.now)) (sym c.index-in-CutProgram.ensures) (subst (λ (e : Effect). Within e a.part (length (units a.part.word a.array.now)) (length (units a.part.word a.residue.now))) c.in-CutProgram.is c.requires).0

pub cut_erase-requires : goal.cut_erase-requires
cut_erase-requires c =
    let a = c.args in
    subst (λ (e : Effect). Within e a.part (length (units a.part.word a.array.now)) (length (units a.part.word a.residue.now))) c.in-CutErase.is c.requires

pub returns-in-Nothing : goal.returns-in-Nothing
returns-in-Nothing c = record { array_left = simp c.in-Nothing.is; array_spare = refl }

pub returns-in-Program : goal.returns-in-Program
returns-in-Program c = record { array_left = c.program_unit.ensures.s_left ∙ simp (c.index.ensures, c.in-Program.is); array_spare = c.program_unit.ensures.s_spare }

pub returns-in-Erase : goal.returns-in-Erase
returns-in-Erase c = record { array_left = c.erase.ensures.array_left ∙ simp c.in-Erase.is; array_spare = c.erase.ensures.array_spare }

pub returns-in-CutProgram : goal.returns-in-CutProgram
returns-in-CutProgram c = record { array_left = c.cut_program.ensures.array_left ∙ simp (c.index-in-CutProgram.ensures, c.in-CutProgram.is); array_spare = c.cut_program.ensures.array_spare }

pub returns-in-CutErase : goal.returns-in-CutErase
returns-in-CutErase c = record { array_left = c.cut_erase.ensures.array_left ∙ simp c.in-CutErase.is; array_spare = c.cut_erase.ensures.array_spare }
