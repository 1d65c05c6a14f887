use Rattle.c_held.proofs.holds.hold_out.Reads as reads
use Rattle.c_held.proofs.holds.hold_out.Lts as lts
use Rattle.c_cycle.proofs.states.flag_out.Reads as flag-out-reads
use Rattle.c_held.proofs.holds.step_out.Reads as step-out-reads
use Rattle.c_held.proofs.holds.hold_out.Goals as goal

-- src/holds.rt:69:1
pub returns : goal.returns
returns c = simp (c.flag_out.ensures, c.step_out.ensures)
