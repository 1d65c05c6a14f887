-- `load_told::erase_cost` meets its contract.
use borrow.Author.Tests.{eq-eqb, ne_eqb}
use Rattle.load_told.specs.Tellings.{erase_cost}
use Rattle.load_told.proofs.erase_cost.Goals as goal

pub returns-then-erases-eq0 : goal.returns-then-erases-eq0
unfolding erase_cost
returns-then-erases-eq0 c = simp (eq-eqb _ _ c.if-erases-eq0.true)

pub returns : goal.returns
unfolding erase_cost
returns c = simp (ne_eqb _ _ c.if-erases-eq0.false)
