use Rattle.store_told.proofs.part_of.Reads as reads
use Rattle.store_told.proofs.part_of.Lts as lts
use Rattle.verify_answer.proofs.numeral.Reads as IsNumeral-reads
use Rattle.store_told.proofs.part_of.Goals as goal

-- src/lib.rt:70:1
pub returns : goal.returns
returns c = simp c.numeral.ensures
