-- `c_recording::following` meets its contract.
use borrow.Author.Tests.{lt-ltb, le-ltb}
use Rattle.recording_walk.specs.Inner.{place_after}
use Rattle.c_recording.proofs.following.Goals as goal

pub returns-then-at-lt-MOST : goal.returns-then-at-lt-MOST
unfolding place_after
returns-then-at-lt-MOST c = simp (lt-ltb _ _ c.if-at-lt-MOST.true)

pub returns : goal.returns
unfolding place_after
returns c = simp (le-ltb _ _ c.if-at-lt-MOST.false)
