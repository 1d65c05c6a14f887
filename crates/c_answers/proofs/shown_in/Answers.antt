-- `c_answers::shown_in` meets its contract.
use mathlib.Core.Path.{◌∙◌}
use borrow.Author.Tests.{eq-eqb, ne_eqb}
use Rattle.c_answers.specs.Answers.{shown_in}
use Rattle.c_answers.proofs.shown_in.Goals as goal

pub returns-then-kind-eq0 : goal.returns-then-kind-eq0
unfolding shown_in
returns-then-kind-eq0 c = c.wide.ensures.0 ∙ simp (eq-eqb c.args.kind 0 c.if-kind-eq0.true)

pub returns : goal.returns
unfolding shown_in
returns c = simp (ne_eqb c.args.kind 0 c.if-kind-eq0.false)
