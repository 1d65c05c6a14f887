-- `recording_replay::used_for` meets its contract.
use borrow.Author.Tests.{lt-ltb, le-ltb}
use Rattle.recording_replay.specs.Recorded.{used_for}
use Rattle.recording_replay.proofs.used_for.Goals as goal

pub returns-then-number-gt0 : goal.returns-then-number-gt0
unfolding used_for
returns-then-number-gt0 c = simp (lt-ltb _ _ c.if-number-gt0.true)

pub returns-then-bad-gt0 : goal.returns-then-bad-gt0
unfolding used_for
returns-then-bad-gt0 c = simp (lt-ltb _ _ c.if-bad-gt0.true, le-ltb _ _ c.if-number-gt0.false)

pub returns : goal.returns
unfolding used_for
returns c = simp (le-ltb _ _ c.if-bad-gt0.false, le-ltb _ _ c.if-number-gt0.false)
