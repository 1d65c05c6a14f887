-- `c_answers::cut` meets its contract.
use mathlib.Core.Path.{◌∙◌}
use borrow.Author.Tests.{eq-eqb, ne_eqb}
use Rattle.c_ordinary.specs.Ordinary.{rested_as}
use Rattle.c_answers.specs.Answers.{cut_status, cut_as}
use Rattle.c_answers.proofs.cut.Goals as goal

pub returns-then-b-eq0 : goal.returns-then-b-eq0
unfolding cut_as
returns-then-b-eq0 c = c.rested.ensures ∙ simp (eq-eqb c.args.b.rp 0 c.if-b-eq0.true)

pub returns : goal.returns
unfolding cut_as
returns c = let a = c.args in
    c.rested-2.ensures ∙ (λ i. rested_as a.n (c.seen_in.ensures i) (c.shown_in.ensures i) 1 (cut_status a.n.status a.bits) 0) ∙ simp (ne_eqb a.b.rp 0 c.if-b-eq0.false)
