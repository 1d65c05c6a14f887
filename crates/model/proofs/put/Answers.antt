use Rattle.model.proofs.Borders.{found_in, done_in, undone_in}
use mathlib.Core.Path.{refl, sym, ◌∙◌}
use Rattle.model.proofs.put.Goals as goal

pub apply-requires : goal.apply-requires
apply-requires c =
    let a = c.args in
    found_in a.effect a.part a.array.now a.residue.now _ _ c.units_in.ensures c.units_in-2.ensures (sym c.finds.ensures ∙ c.if-finds.true)

pub returns-then-finds : goal.returns-then-finds
returns-then-finds c =
    let a = c.args in record {
      array_left = c.apply.ensures.array_left
          ∙ done_in a.effect a.part a.array.now a.residue.now _ _ c.units_in.ensures c.units_in-2.ensures (sym c.finds.ensures ∙ c.if-finds.true);
      array_spare = c.apply.ensures.array_spare;
    }

pub returns : goal.returns
returns c =
    let a = c.args in
    record { array_left = undone_in a.effect a.part a.array.now a.residue.now _ _ c.units_in.ensures c.units_in-2.ensures (sym c.finds.ensures ∙ c.if-finds.false); array_spare = refl }
