use borrow.Author.Tests.{eq-eqb, ne_eqb}
use Rattle.c_cycle.specs.Values.{kind_in}
use Rattle.c_cycle.proofs.states.kind_in.Goals as goal

pub returns-then-n-eq-READ : goal.returns-then-n-eq-READ
unfolding kind_in
returns-then-n-eq-READ c = simp (eq-eqb _ _ c.if-n-eq-READ.true)

pub returns-then-n-eq-WRITE : goal.returns-then-n-eq-WRITE
unfolding kind_in
returns-then-n-eq-WRITE c = simp (eq-eqb _ _ c.if-n-eq-WRITE.true, ne_eqb _ _ c.if-n-eq-READ.false)

pub returns : goal.returns
unfolding kind_in
returns c = simp (ne_eqb _ _ c.if-n-eq-WRITE.false, ne_eqb _ _ c.if-n-eq-READ.false)
