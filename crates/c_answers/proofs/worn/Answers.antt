use Rattle.c_answers.proofs.worn.Reads as reads
use Rattle.c_answers.proofs.worn.Lts as lts
use Rattle.c_answers.proofs.raised.Reads as raised_reads
use Rattle.c_answers.proofs.worn.Goals as goal

-- src/lib.rt:152:1
pub returns : goal.returns
returns c = simp c.raised-more.ensures
