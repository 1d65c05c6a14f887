use Rattle.loader_held.proofs.holds.moved_on.Reads as reads
use Rattle.loader_held.proofs.holds.moved_on.Lts as lts
use Rattle.loader_held.proofs.holds.numbering.Reads as numbering-reads
use Rattle.loader_held.proofs.holds.pair_of.Reads as pair-of-reads
use Rattle.loader_held.proofs.holds.moved_on.Goals as goal

-- src/holds.rt:95:1
pub returns : goal.returns
returns c = simp (c.pair_of.ensures, c.numbering.ensures)
