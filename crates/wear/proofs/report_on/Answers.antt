use borrow.Author.Tests.{eq-eqb, ne_eqb}
use mathlib.Core.Path.{sym, ◌∙◌}
use Rattle.wear.specs.Refusals.{reported_of}
use Rattle.wear.proofs.Walks.{few, sevens}
use Rattle.wear.proofs.report_on.Goals as goal

pub returns-then-m-ne0 : goal.returns-then-m-ne0
unfolding reported_of
returns-then-m-ne0 c = simp (c.none.ensures, ← c.report_number-m.ensures, ne_eqb _ _ c.if-m-ne0.true)

pub sum-requires : goal.sum-requires
sum-requires c =
    let e = sym c.report_number-m.ensures ∙ c.if-m-ne0.false in
    (few _ _ _ e, sevens _ _ _ e)

pub returns : goal.returns
unfolding reported_of
returns c = simp (c.sum.ensures, ← c.report_number-m.ensures, eq-eqb _ _ c.if-m-ne0.false)
