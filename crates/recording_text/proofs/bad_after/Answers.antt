-- `recording_text::bad_after` meets its contract.
use borrow.Author.Tests.{lt-ltb, le-ltb}
use Rattle.recording_text.specs.Texts.{bad_after}
use Rattle.recording_text.proofs.bad_after.Goals as goal

pub returns-then-n-size : goal.returns-then-n-size
unfolding bad_after
returns-then-n-size c = simp (lt-ltb _ _ c.if-n-size.true)

pub returns : goal.returns
unfolding bad_after
returns c = simp (le-ltb _ _ c.if-n-size.false)
