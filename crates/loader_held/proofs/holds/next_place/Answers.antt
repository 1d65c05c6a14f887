use borrow.Author.Tests.{lt-ltb, le-ltb}
use Rattle.loader_moves.specs.Inner.{past}
use Rattle.loader_held.proofs.holds.next_place.Reads as reads
use Rattle.loader_held.proofs.holds.next_place.Lts as lts
use Rattle.loader_held.proofs.holds.next_place.Goals as goal

-- src/holds.rt:168:9
pub returns-then-p-n : goal.returns-then-p-n
unfolding past
returns-then-p-n c = simp (lt-ltb _ _ c.if-p-n.true)

-- src/holds.rt:164:1
pub returns : goal.returns
unfolding past
returns c = simp (le-ltb _ _ c.if-p-n.false)
