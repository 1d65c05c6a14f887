use Rattle.c_readings.proofs.answer_numbers.Reads as reads
use Rattle.c_readings.proofs.answer_numbers.Lts as lts
use Rattle.c_readings.proofs.reading_as.Reads as reading-as-reads
use Rattle.c_readings.proofs.reading_out.Reads as reading-out-reads
use Rattle.c_readings.proofs.zero.Reads as zero-reads
use Rattle.c_readings.proofs.answer_numbers.Goals as goal

-- src/lib.rt:44:1
pub returns-in-Refused : goal.returns-in-Refused
returns-in-Refused c = simp (c.reading_as.ensures, c.zero.ensures, c.in-Refused.is)
