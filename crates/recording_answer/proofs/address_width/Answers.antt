-- `recording_answer::address_width` meets its contract.
use borrow.Author.Tests.{lt-ltb, le-ltb}
use Rattle.recording_answer.specs.Lines.{address_width}
use Rattle.recording_answer.proofs.address_width.Goals as goal

pub returns-then-v-lt256 : goal.returns-then-v-lt256
unfolding address_width
returns-then-v-lt256 c = simp (lt-ltb _ _ c.if-v-lt256.true)

pub returns : goal.returns
unfolding address_width
returns c = simp (c.data_width.ensures, le-ltb _ _ c.if-v-lt256.false)
