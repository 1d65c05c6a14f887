use Rattle.c_held.proofs.response_out.Reads as reads
use Rattle.c_held.proofs.response_out.Lts as lts
use Rattle.c_held.proofs.holds.held_out.Reads as held-out-reads
use Rattle.c_records.proofs.records.saying_out.Reads as saying-out-reads
use Rattle.c_held.proofs.response_out.Goals as goal

-- src/lib.rt:39:1
pub returns : goal.returns
returns c = simp (c.held_out.ensures, c.saying_out.ensures)
