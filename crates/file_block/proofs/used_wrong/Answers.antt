-- `file_block::used_wrong` meets its contract.
use borrow.Author.Tests.{eq-eqb, ne_eqb}
use Rattle.file_block.specs.Block.{used_wrong}
use Rattle.file_block.proofs.used_wrong.Goals as goal

pub returns-then-i-n : goal.returns-then-i-n
unfolding used_wrong
returns-then-i-n c = simp (eq-eqb _ _ c.if-i-n.true, c.used-u.ensures.0)

pub returns : goal.returns
unfolding used_wrong
returns c = simp (ne_eqb _ _ c.if-i-n.false, c.used-u.ensures.0)
