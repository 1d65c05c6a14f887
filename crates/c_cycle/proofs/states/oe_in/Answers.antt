use borrow.Author.Tests.{lt-ltb, le-ltb}
use Rattle.c_cycle.specs.Values.{oe_in}
use Rattle.c_cycle.proofs.states.oe_in.Goals as goal

pub returns-then-kind-gt-IDLE : goal.returns-then-kind-gt-IDLE
unfolding oe_in
returns-then-kind-gt-IDLE c = simp (lt-ltb _ _ c.if-kind-gt-IDLE.true)

pub returns : goal.returns
unfolding oe_in
returns c = simp (le-ltb _ _ c.if-kind-gt-IDLE.false)
