use Rattle.c_held.proofs.holds.hold_in.Reads as reads
use Rattle.c_held.proofs.holds.hold_in.Lts as lts
use Rattle.c_held.proofs.holds.step_in.Reads as step-in-reads
use Rattle.c_held.proofs.holds.waits_in.Reads as waits-in-reads
use Rattle.c_held.proofs.holds.hold_in.Goals as goal

-- src/holds.rt:57:1
pub returns : goal.returns
returns c = simp (c.waits_in.ensures, c.step_in.ensures)
