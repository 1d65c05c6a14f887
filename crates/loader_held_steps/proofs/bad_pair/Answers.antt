use Rattle.loader_held_steps.specs.HeldFront.{bad_pair}
use Rattle.loader_held_steps.proofs.bad_pair.Reads as reads
use Rattle.loader_held_steps.proofs.bad_pair.Lts as lts
use Rattle.loader_held_steps.proofs.bad_hold.Reads as bad-hold-reads
use Rattle.loader_held_steps.proofs.bad_record.Reads as bad-record-reads
use Rattle.loader_held_steps.proofs.bad_pair.Goals as goal

-- src/lib.rt:104:1
pub returns : goal.returns
unfolding bad_pair
returns c = simp (c.bad_hold.ensures, c.bad_record.ensures)
