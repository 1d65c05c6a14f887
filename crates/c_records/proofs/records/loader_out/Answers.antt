use Rattle.c_records.proofs.records.loader_out.Reads as reads
use Rattle.c_records.proofs.records.loader_out.Lts as lts
use Rattle.c_cycle.proofs.states.flag_out.Reads as flag-out-reads
use Rattle.c_records.proofs.records.end_out.Reads as end-out-reads
use Rattle.c_records.proofs.records.stage_out.Reads as stage-out-reads
use Rattle.c_records.proofs.records.loader_out.Goals as goal

-- src/records.rt:95:1
pub returns : goal.returns
returns c = simp (c.flag_out-3.ensures, c.flag_out-2.ensures, c.end_out.ensures, c.stage_out.ensures, c.flag_out.ensures)
