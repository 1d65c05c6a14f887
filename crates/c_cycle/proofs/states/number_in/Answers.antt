use borrow.Author.Tests.{lt-ltb, le-ltb}
use Rattle.c_cycle.specs.Values.{number_in}
use Rattle.c_cycle.proofs.states.number_in.Goals as goal

pub returns-then-word-gt1 : goal.returns-then-word-gt1
unfolding number_in
returns-then-word-gt1 c = simp (lt-ltb _ _ c.if-word-gt1.true)

pub returns : goal.returns
unfolding number_in
returns c = simp (le-ltb _ _ c.if-word-gt1.false)
