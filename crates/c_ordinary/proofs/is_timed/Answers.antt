-- `c_ordinary::is_timed` meets its contract.
use borrow.Author.Tests.{eq-eqb, ne_eqb}
use Rattle.c_ordinary.specs.Ordinary.{timed_in}
use Rattle.c_ordinary.proofs.is_timed.Goals as goal

pub returns-then-n-eq0 : goal.returns-then-n-eq0
unfolding timed_in
returns-then-n-eq0 c = simp (eq-eqb c.args.n.program 0 c.if-n-eq0.true)

pub returns-then-n-eq0-2 : goal.returns-then-n-eq0-2
unfolding timed_in
returns-then-n-eq0-2 c = simp (ne_eqb c.args.n.program 0 c.if-n-eq0.false, eq-eqb c.args.n.erase 0 c.if-n-eq0-2.true)

pub returns-then-n-eq0-3 : goal.returns-then-n-eq0-3
unfolding timed_in
returns-then-n-eq0-3 c = simp (ne_eqb c.args.n.program 0 c.if-n-eq0.false, ne_eqb c.args.n.erase 0 c.if-n-eq0-2.false, eq-eqb c.args.n.suspend 0 c.if-n-eq0-3.true)

pub returns : goal.returns
unfolding timed_in
returns c = simp (ne_eqb c.args.n.program 0 c.if-n-eq0.false, ne_eqb c.args.n.erase 0 c.if-n-eq0-2.false, ne_eqb c.args.n.suspend 0 c.if-n-eq0-3.false)
