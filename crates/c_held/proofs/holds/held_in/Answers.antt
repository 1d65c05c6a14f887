use Rattle.c_held.proofs.holds.held_in.Reads as reads
use Rattle.c_held.proofs.holds.held_in.Lts as lts
use Rattle.c_held.proofs.holds.hold_in.Reads as hold-in-reads
use Rattle.c_records.proofs.records.loader_in.Reads as loader-in-reads
use Rattle.c_held.proofs.holds.held_in.Goals as goal

-- src/holds.rt:93:1
pub returns : goal.returns
returns c = simp (c.hold_in.ensures, c.loader_in.ensures)
