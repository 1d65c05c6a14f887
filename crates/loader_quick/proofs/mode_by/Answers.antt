-- `loader_quick::mode_by` meets its contract.
use borrow.Author.Tests.{eq-eqb, ne_eqb}
use Rattle.loader_quick.specs.Quick.{mode_by}
use Rattle.loader_quick.proofs.mode_by.Goals as goal

-- src/lib.rt:106:9
pub returns-then-cost-eq0 : goal.returns-then-cost-eq0
unfolding mode_by
returns-then-cost-eq0 c = simp (eq-eqb _ _ c.if-cost-eq0.true)

-- src/lib.rt:102:1
pub returns : goal.returns
unfolding mode_by
returns c = simp (ne_eqb _ _ c.if-cost-eq0.false)
