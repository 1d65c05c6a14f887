-- `trace_replay::answers::end_length` meets its contract.
use Rattle.trace_replay.specs.Answers.{trace_end, mark_of}
use borrow.Author.Tests.{eq-eqb, ne_eqb}
use Rattle.trace_replay.proofs.answers.end_length.Goals as goal

pub returns-then-left-eq0 : goal.returns-then-left-eq0
unfolding trace_end mark_of
returns-then-left-eq0 c = simp (eq-eqb _ _ c.if-left-eq0.true)

pub returns : goal.returns
unfolding trace_end mark_of
returns c = simp (ne_eqb _ _ c.if-left-eq0.false)
