-- `trace_replay::answers::write_end` meets its contract.
use Rattle.trace_replay.specs.Answers.{trace_end}
use Rattle.trace_replay.proofs.Rounds.{end_nothing}
use borrow.Author.Tests.{ne_eqb}
use Rattle.trace_replay.proofs.answers.write_end.Goals as goal

pub returns-then-left-eq0 : goal.returns-then-left-eq0
returns-then-left-eq0 c = let a = c.args in end_nothing a.number a.left a.out.now c.if-left-eq0.true

pub returns : goal.returns
unfolding trace_end
returns c = simp (c.write_mark.ensures, ne_eqb _ _ c.if-left-eq0.false)
