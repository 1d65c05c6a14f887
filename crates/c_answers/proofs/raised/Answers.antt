-- `c_answers::raised` meets its contract.
use borrow.Author.Tests.{ne_eqb}
use Rattle.model_types.specs.Counts.{raised_at}
use Rattle.c_answers.proofs.raised.Reads as reads
use Rattle.c_answers.proofs.raised.Lts as lts
use Rattle.model_types.proofs.counts.raise.Reads as raise-reads
use Rattle.c_answers.proofs.raised.Goals as goal

pub returns-then-block-eq0 : goal.returns-then-block-eq0
unfolding raised_at
returns-then-block-eq0 c = simp (c.raise.ensures, c.if-block-eq0.true)

pub returns-then-block-eq1 : goal.returns-then-block-eq1
unfolding raised_at
returns-then-block-eq1 c = simp (c.raise-then-block-eq1.ensures, c.if-block-eq1.true)

pub returns-then-block-eq2 : goal.returns-then-block-eq2
unfolding raised_at
returns-then-block-eq2 c = simp (c.raise-then-block-eq2.ensures, c.if-block-eq2.true)

pub returns-then-block-eq3 : goal.returns-then-block-eq3
unfolding raised_at
returns-then-block-eq3 c = simp (c.raise-then-block-eq3.ensures, c.if-block-eq3.true)

pub returns-then-block-eq4 : goal.returns-then-block-eq4
unfolding raised_at
returns-then-block-eq4 c = simp (c.raise-then-block-eq4.ensures, c.if-block-eq4.true)

pub returns-then-block-eq5 : goal.returns-then-block-eq5
unfolding raised_at
returns-then-block-eq5 c = simp (c.raise-then-block-eq5.ensures, c.if-block-eq5.true)

pub returns-then-block-eq6 : goal.returns-then-block-eq6
unfolding raised_at
returns-then-block-eq6 c = simp (c.raise-then-block-eq6.ensures, c.if-block-eq6.true)

pub returns : goal.returns
unfolding raised_at
returns c = simp (ne_eqb _ _ c.if-block-eq6.false, ne_eqb _ _ c.if-block-eq5.false, ne_eqb _ _ c.if-block-eq4.false, ne_eqb _ _ c.if-block-eq3.false, ne_eqb _ _ c.if-block-eq2.false, ne_eqb _ _ c.if-block-eq1.false, ne_eqb _ _ c.if-block-eq0.false)
