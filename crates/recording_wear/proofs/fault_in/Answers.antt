-- `recording_wear::fault_in` meets its contract.
use borrow.Author.Tests.{lt-ltb, le-ltb}
use Rattle.recording_wear.specs.Recorded.{fault_in}
use Rattle.recording_wear.proofs.fault_in.Goals as goal

pub returns-then-at-lines : goal.returns-then-at-lines
unfolding fault_in
returns-then-at-lines c = simp (lt-ltb _ _ c.if-at-lines.true)

pub returns : goal.returns
unfolding fault_in
returns c = simp (le-ltb _ _ c.if-at-lines.false)
