use Rattle.c_held.proofs.holds.held_back.Reads as reads
use Rattle.c_held.proofs.holds.held_back.Lts as lts
use Rattle.c_held.proofs.holds.hold_back.Reads as hold-back-reads
use Rattle.c_records.proofs.records.loader_back.Reads as loader-back-reads
use Rattle.c_held.proofs.holds.held_back.Goals as goal

-- src/holds.rt:116:1
pub returns : goal.returns
returns c = simp (c.hold_back.ensures, c.loader_back.ensures)
