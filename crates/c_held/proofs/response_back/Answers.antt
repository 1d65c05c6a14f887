use Rattle.c_held.proofs.response_back.Reads as reads
use Rattle.c_held.proofs.response_back.Lts as lts
use Rattle.c_held.proofs.holds.held_back.Reads as held-back-reads
use Rattle.c_records.proofs.records.saying_out.Reads as saying-out-reads
use Rattle.c_held.proofs.response_back.Goals as goal

-- src/lib.rt:51:1
pub returns : goal.returns
returns c = simp (c.held_back.ensures, c.saying_out.ensures)
