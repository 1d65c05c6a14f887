use Rattle.c_held.proofs.holds.held_out.Reads as reads
use Rattle.c_held.proofs.holds.held_out.Lts as lts
use Rattle.c_held.proofs.holds.hold_out.Reads as hold-out-reads
use Rattle.c_records.proofs.records.loader_out.Reads as loader-out-reads
use Rattle.c_held.proofs.holds.held_out.Goals as goal

-- src/holds.rt:104:1
pub returns : goal.returns
returns c = simp (c.hold_out.ensures, c.loader_out.ensures)
