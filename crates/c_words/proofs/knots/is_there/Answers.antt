-- `knots::is_there` meets its contract.
use borrow.Author.Tests.{lt-ltb, le-ltb}
use Rattle.c_words.specs.Knots.{there_of}
use Rattle.c_words.proofs.knots.is_there.Goals as goal

pub returns-then-place-n : goal.returns-then-place-n
unfolding there_of
returns-then-place-n c = simp (lt-ltb _ _ c.if-place-n.true)

pub returns : goal.returns
unfolding there_of
returns c = simp (le-ltb _ _ c.if-place-n.false)
