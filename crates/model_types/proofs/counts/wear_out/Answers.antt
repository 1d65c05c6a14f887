use Rattle.model_types.proofs.counts.wear_out.Reads as reads
use Rattle.model_types.proofs.counts.wear_out.Lts as lts
use Rattle.model_types.proofs.counts.raise_at.Reads as raise-at-reads
use Rattle.model_types.proofs.counts.wear_out.Goals as goal

-- src/counts.rt:44:1
pub returns : goal.returns
returns c = simp (c.raise_at-7.ensures, c.raise_at-6.ensures, c.raise_at-5.ensures, c.raise_at-4.ensures, c.raise_at-3.ensures, c.raise_at-2.ensures, c.raise_at.ensures)
