-- `recording_replay::bad_behind` meets its contract.
use borrow.Author.Tests.{lt-ltb, le-ltb}
use Rattle.recording_replay.specs.Recorded.{bad_behind}
use Rattle.recording_replay.proofs.bad_behind.Goals as goal

pub returns-then-g-size : goal.returns-then-g-size
unfolding bad_behind
returns-then-g-size c = simp (lt-ltb _ _ c.if-g-size.true)

pub returns : goal.returns
unfolding bad_behind
returns c = simp (le-ltb _ _ c.if-g-size.false)
