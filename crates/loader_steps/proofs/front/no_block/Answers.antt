use Rattle.loader_steps.specs.Front.{no_block}
use Rattle.loader_steps.proofs.front.no_block.Goals as goal

pub returns : goal.returns
unfolding no_block
returns c = simp c.length.ensures
