use borrow.Author.Tests.{lt-ltb, le-ltb}
use Rattle.model_types.specs.Counts.{raised}
use Rattle.model_types.proofs.counts.raise.Goals as goal

pub returns-then-n-ge-STOP : goal.returns-then-n-ge-STOP
unfolding raised
returns-then-n-ge-STOP c = simp (le-ltb _ _ c.if-n-ge-STOP.true)

pub returns : goal.returns
unfolding raised
returns c = simp (lt-ltb _ _ c.if-n-ge-STOP.false)
