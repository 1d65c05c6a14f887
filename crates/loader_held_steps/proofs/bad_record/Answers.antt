use Rattle.loader_steps.specs.Front.{bad_record}
use Rattle.loader_held_steps.proofs.bad_record.Reads as reads
use Rattle.loader_held_steps.proofs.bad_record.Lts as lts
use Rattle.device.proofs.length.Reads as length-reads
use Rattle.loader_steps.proofs.front.no_block.Reads as no-block-reads
use Rattle.loader_held_steps.proofs.bad_record.Goals as goal

-- src/lib.rt:86:1
pub returns : goal.returns
unfolding bad_record
returns c = simp (c.length.ensures, c.no_block.ensures)
