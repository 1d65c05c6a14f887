-- `c_answers::seen_in` meets its contract.
use borrow.Author.Tests.{eq-eqb, ne_eqb}
use Rattle.c_answers.specs.Answers.{seen_in}
use Rattle.c_answers.proofs.seen_in.Goals as goal

pub returns-then-kind-eq0 : goal.returns-then-kind-eq0
unfolding seen_in
returns-then-kind-eq0 c = simp (eq-eqb c.args.kind 0 c.if-kind-eq0.true)

pub returns : goal.returns
unfolding seen_in
returns c = simp (ne_eqb c.args.kind 0 c.if-kind-eq0.false)
