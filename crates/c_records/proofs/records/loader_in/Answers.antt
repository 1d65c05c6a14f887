use Rattle.c_records.proofs.records.loader_in.Reads as reads
use Rattle.c_records.proofs.records.loader_in.Lts as lts
use Rattle.c_cycle.proofs.states.part_in.Reads as part-in-reads
use Rattle.c_cycle.proofs.states.pins_in.Reads as pins-in-reads
use Rattle.c_records.proofs.records.polls_in.Reads as polls-in-reads
use Rattle.c_records.proofs.records.stage_in.Reads as stage-in-reads
use Rattle.c_records.proofs.records.loader_in.Goals as goal

-- src/records.rt:80:1
pub returns : goal.returns
returns c = simp (c.polls_in.ensures, c.stage_in.ensures, c.pins_in.ensures, c.part_in.ensures)
