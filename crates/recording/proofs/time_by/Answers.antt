use Rattle.recording.specs.Inner.{time_by}
use Rattle.recording.proofs.time_by.Goals as goal

pub returns-then-start : goal.returns-then-start
unfolding time_by
returns-then-start c = simp (c.count_of.ensures, c.if-start.true)

pub returns : goal.returns
unfolding time_by
returns c = simp c.if-start.false
