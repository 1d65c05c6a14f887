-- `loader_blocks::are_alike` meets its contract.
use Rattle.loader_blocks.specs.Blocks.{alike}
use Rattle.loader_blocks.proofs.are_alike.Goals as goal

pub returns : goal.returns
unfolding alike
returns c = simp c.is_uneven.ensures
