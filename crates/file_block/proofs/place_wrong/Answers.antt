-- `file_block::place_wrong` meets its contract.
use Rattle.file_block.specs.Block.{place_wrong}
use Rattle.file_block.proofs.place_wrong.Goals as goal

pub returns : goal.returns
unfolding place_wrong
returns c = simp (c.wide-2.ensures.0, c.nth-2.ensures, c.wide.ensures.0, c.nth.ensures)
