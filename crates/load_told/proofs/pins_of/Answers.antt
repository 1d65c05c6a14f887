-- `load_told::pins_of` meets its contract.
use borrow.Author.Tests.{eq-eqb, ne_eqb}
use Rattle.load_told.specs.Tellings.{pins_of}
use Rattle.load_told.proofs.pins_of.Goals as goal

pub returns-then-block-eq0 : goal.returns-then-block-eq0
unfolding pins_of
returns-then-block-eq0 c = simp (eq-eqb _ _ c.if-block-eq0.true)

pub returns : goal.returns
unfolding pins_of
returns c = simp (ne_eqb _ _ c.if-block-eq0.false)
