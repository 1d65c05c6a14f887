-- `file_block::letter_wrong` meets its contract.
use Rattle.file_block.specs.Block.{letter_wrong}
use Rattle.file_block.proofs.letter_wrong.Goals as goal

pub returns : goal.returns
unfolding letter_wrong
returns c = simp (c.is_letter-known.ensures, c.nth-x.ensures)
