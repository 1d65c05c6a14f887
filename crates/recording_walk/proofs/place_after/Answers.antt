use borrow.Author.Tests.{lt-ltb, le-ltb}
use Rattle.recording_walk.specs.Inner.{place_after}
use Rattle.recording_walk.proofs.place_after.Goals as goal

pub returns-then-fault : goal.returns-then-fault
unfolding place_after
returns-then-fault c = simp c.if-fault.true

pub returns-then-at-lt-MOST : goal.returns-then-at-lt-MOST
unfolding place_after
returns-then-at-lt-MOST c = simp (lt-ltb _ _ c.if-at-lt-MOST.true, c.if-fault.false)

pub returns : goal.returns
unfolding place_after
returns c = simp (le-ltb _ _ c.if-at-lt-MOST.false, c.if-fault.false)
