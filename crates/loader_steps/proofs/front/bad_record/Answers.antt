-- `loader_steps::front::bad_record` meets its contract.
use mathlib.Core.Path.{sym}
use Rattle.loader_steps.specs.Front.{no_block, bad_record}
use Rattle.loader_steps.proofs.front.bad_record.Goals as goal

pub returns : goal.returns
unfolding bad_record no_block
returns c = simp (sym c.requires)
