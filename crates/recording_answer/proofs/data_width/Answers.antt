-- `recording_answer::data_width` meets its contract.
use borrow.Author.Tests.{lt-ltb, le-ltb}
use Rattle.recording_answer.specs.Lines.{data_width}
use Rattle.recording_answer.proofs.data_width.Goals as goal

pub returns-then-v-lt256 : goal.returns-then-v-lt256
unfolding data_width
returns-then-v-lt256 c = simp (lt-ltb _ _ c.if-v-lt256.true)

pub returns-then-v-lt65536 : goal.returns-then-v-lt65536
unfolding data_width
returns-then-v-lt65536 c = simp (lt-ltb _ _ c.if-v-lt65536.true, le-ltb _ _ c.if-v-lt256.false)

pub returns-then-v-lt4294967296 : goal.returns-then-v-lt4294967296
unfolding data_width
returns-then-v-lt4294967296 c = simp (lt-ltb _ _ c.if-v-lt4294967296.true, le-ltb _ _ c.if-v-lt65536.false, le-ltb _ _ c.if-v-lt256.false)

pub returns : goal.returns
unfolding data_width
returns c = simp (le-ltb _ _ c.if-v-lt4294967296.false, le-ltb _ _ c.if-v-lt65536.false, le-ltb _ _ c.if-v-lt256.false)
