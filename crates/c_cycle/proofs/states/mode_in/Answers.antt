use borrow.Author.Tests.{eq-eqb, ne_eqb}
use Rattle.c_cycle.specs.Values.{mode_in}
use Rattle.c_cycle.proofs.states.mode_in.Goals as goal

pub returns-then-n-eq-ARRAY : goal.returns-then-n-eq-ARRAY
unfolding mode_in
returns-then-n-eq-ARRAY c = simp (eq-eqb _ _ c.if-n-eq-ARRAY.true)

pub returns-then-n-eq-STATUS : goal.returns-then-n-eq-STATUS
unfolding mode_in
returns-then-n-eq-STATUS c = simp (eq-eqb _ _ c.if-n-eq-STATUS.true, ne_eqb _ _ c.if-n-eq-ARRAY.false)

pub returns : goal.returns
unfolding mode_in
returns c = simp (ne_eqb _ _ c.if-n-eq-STATUS.false, ne_eqb _ _ c.if-n-eq-ARRAY.false)
