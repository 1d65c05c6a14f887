-- `load_told::erases_of` meets its contract.
use borrow.Author.Tests.{eq-eqb, ne_eqb}
use Rattle.model_types.specs.Counts.{count_of}
use Rattle.load_told.proofs.erases_of.Goals as goal

pub returns-then-k-eq0 : goal.returns-then-k-eq0
unfolding count_of
returns-then-k-eq0 c = simp (eq-eqb _ _ c.if-k-eq0.true)

pub returns-then-k-eq1 : goal.returns-then-k-eq1
unfolding count_of
returns-then-k-eq1 c = simp (eq-eqb _ _ c.if-k-eq1.true, ne_eqb _ _ c.if-k-eq0.false)

pub returns-then-k-eq2 : goal.returns-then-k-eq2
unfolding count_of
returns-then-k-eq2 c = simp (eq-eqb _ _ c.if-k-eq2.true, ne_eqb _ _ c.if-k-eq1.false, ne_eqb _ _ c.if-k-eq0.false)

pub returns-then-k-eq3 : goal.returns-then-k-eq3
unfolding count_of
returns-then-k-eq3 c = simp (eq-eqb _ _ c.if-k-eq3.true, ne_eqb _ _ c.if-k-eq2.false, ne_eqb _ _ c.if-k-eq1.false, ne_eqb _ _ c.if-k-eq0.false)

pub returns-then-k-eq4 : goal.returns-then-k-eq4
unfolding count_of
returns-then-k-eq4 c = simp (eq-eqb _ _ c.if-k-eq4.true, ne_eqb _ _ c.if-k-eq3.false, ne_eqb _ _ c.if-k-eq2.false, ne_eqb _ _ c.if-k-eq1.false, ne_eqb _ _ c.if-k-eq0.false)

pub returns-then-k-eq5 : goal.returns-then-k-eq5
unfolding count_of
returns-then-k-eq5 c = simp (eq-eqb _ _ c.if-k-eq5.true, ne_eqb _ _ c.if-k-eq4.false, ne_eqb _ _ c.if-k-eq3.false, ne_eqb _ _ c.if-k-eq2.false, ne_eqb _ _ c.if-k-eq1.false, ne_eqb _ _ c.if-k-eq0.false)

pub returns-then-k-eq6 : goal.returns-then-k-eq6
unfolding count_of
returns-then-k-eq6 c = simp (eq-eqb _ _ c.if-k-eq6.true, ne_eqb _ _ c.if-k-eq5.false, ne_eqb _ _ c.if-k-eq4.false, ne_eqb _ _ c.if-k-eq3.false, ne_eqb _ _ c.if-k-eq2.false, ne_eqb _ _ c.if-k-eq1.false, ne_eqb _ _ c.if-k-eq0.false)

pub returns : goal.returns
unfolding count_of
returns c = simp (ne_eqb _ _ c.if-k-eq6.false, ne_eqb _ _ c.if-k-eq5.false, ne_eqb _ _ c.if-k-eq4.false, ne_eqb _ _ c.if-k-eq3.false, ne_eqb _ _ c.if-k-eq2.false, ne_eqb _ _ c.if-k-eq1.false, ne_eqb _ _ c.if-k-eq0.false)
