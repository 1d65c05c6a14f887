-- `file_block::is_letter` meets its contract.
use Rattle.std.proofs.Common.{◌∙◌}
use Rattle.file_block.specs.Block.{is_letter, letters}
use Rattle.file_block.proofs.Walks.{any_within}
use Rattle.file_block.proofs.is_letter.Goals as goal

pub returns : goal.returns
unfolding is_letter
returns c = c.contains.ensures.value ∙ any_within c.args.x letters
