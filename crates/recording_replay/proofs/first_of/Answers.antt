-- `recording_replay::first_of` meets its contract.
use borrow.Author.Tests.{lt-ltb, le-ltb}
use Rattle.recording_replay.specs.Recorded.{first_line}
use Rattle.recording_replay.proofs.first_of.Goals as goal

pub returns-then-at-gt0 : goal.returns-then-at-gt0
unfolding first_line
returns-then-at-gt0 c = simp (lt-ltb _ _ c.if-at-gt0.true)

pub returns-then-hit : goal.returns-then-hit
unfolding first_line
returns-then-hit c = simp (c.if-hit.true, le-ltb _ _ c.if-at-gt0.false)

pub returns : goal.returns
unfolding first_line
returns c = simp (c.if-hit.false, le-ltb _ _ c.if-at-gt0.false)
