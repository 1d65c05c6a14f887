use Rattle.c_held.specs.Helds.{started_held}
use Rattle.c_held.proofs.tb_held_start.Reads as reads
use Rattle.c_held.proofs.tb_held_start.Lts as lts
use Rattle.c_cycle.proofs.states.part_in.Reads as part-in-reads
use Rattle.c_cycle.proofs.states.pins_in.Reads as pins-in-reads
use Rattle.c_held.proofs.response_out.Reads as response-out-reads
use Rattle.loader_held_steps.proofs.start_held.Reads as start-held-reads
use Rattle.c_held.proofs.tb_held_start.Goals as goal

-- src/lib.rt:63:1
pub returns : goal.returns
unfolding started_held
returns c = simp (c.response_out.ensures, c.start_held.ensures.result, c.pins_in-p.ensures, c.part_in-known.ensures)
