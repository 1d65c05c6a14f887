use borrow.Author.Tests.{lt-ltb, le-ltb}
use Rattle.c_recording.specs.Records.{kind_seen}
use Rattle.c_recording.proofs.records.kind_seen.Goals as goal

pub returns-then-seen-gt-DATA : goal.returns-then-seen-gt-DATA
unfolding kind_seen
returns-then-seen-gt-DATA c = simp (lt-ltb _ _ c.if-seen-gt-DATA.true)

pub returns : goal.returns
unfolding kind_seen
returns c = simp (le-ltb _ _ c.if-seen-gt-DATA.false)
