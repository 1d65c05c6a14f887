use borrow.Author.Tests.{eq-eqb, ne_eqb}
use Rattle.loader_steps.specs.Front.{end_address}
use Rattle.loader_steps.proofs.front.end_address.Goals as goal

pub returns-then-n-eq25 : goal.returns-then-n-eq25
unfolding end_address
returns-then-n-eq25 c = simp (c.byte_here.ensures, eq-eqb _ _ c.if-n-eq25.true)

pub returns : goal.returns
unfolding end_address
returns c = simp (ne_eqb _ _ c.if-n-eq25.false)
