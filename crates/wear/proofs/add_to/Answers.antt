use borrow.Author.Tests.{eq-eqb, ne_eqb}
use Rattle.wear.specs.Refusals.{added_to}
use Rattle.wear.proofs.add_to.Goals as goal

pub returns-then-m-ne0 : goal.returns-then-m-ne0
unfolding added_to
returns-then-m-ne0 c = simp (← c.add_number-m.ensures, ne_eqb _ _ c.if-m-ne0.true)

pub returns : goal.returns
unfolding added_to
returns c = simp (c.add.ensures, ← c.add_number-m.ensures, eq-eqb _ _ c.if-m-ne0.false)
