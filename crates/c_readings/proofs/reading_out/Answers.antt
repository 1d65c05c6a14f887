use Rattle.c_readings.proofs.reading_out.Reads as reads
use Rattle.c_readings.proofs.reading_out.Lts as lts
use Rattle.c_readings.proofs.reading_as.Reads as reading-as-reads
use Rattle.c_readings.proofs.reading_out.Goals as goal

-- src/lib.rt:34:1
pub returns-in-Temperature : goal.returns-in-Temperature
returns-in-Temperature c = simp (c.reading_as.ensures, c.in-Temperature.is)

-- src/lib.rt:34:1
pub returns-in-Below : goal.returns-in-Below
returns-in-Below c = simp (c.reading_as-in-Below.ensures, c.in-Below.is)

-- src/lib.rt:34:1
pub returns-in-Above : goal.returns-in-Above
returns-in-Above c = simp (c.reading_as-in-Above.ensures, c.in-Above.is)
