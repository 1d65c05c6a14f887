-- `recording_replay::first_number` meets its contract.
use borrow.Author.Tests.{lt-ltb, le-ltb}
use Rattle.recording_replay.specs.Recorded.{first_number}
use Rattle.recording_replay.proofs.first_number.Goals as goal

pub returns-then-number-gt0 : goal.returns-then-number-gt0
unfolding first_number
returns-then-number-gt0 c = simp (lt-ltb _ _ c.if-number-gt0.true)

pub returns : goal.returns
unfolding first_number
returns c = simp (le-ltb _ _ c.if-number-gt0.false)
