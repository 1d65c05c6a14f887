use borrow.Author.Tests.{eq-eqb, ne_eqb}
use Rattle.model_types.specs.Counts.{raised_at}
use Rattle.model_types.proofs.counts.raise_at.Reads as reads
use Rattle.model_types.proofs.counts.raise_at.Lts as lts
use Rattle.model_types.proofs.counts.raise.Reads as raise-reads
use Rattle.model_types.proofs.counts.raise_at.Goals as goal

-- src/counts.rt:38:9
pub returns-then-k-j : goal.returns-then-k-j
unfolding raised_at
returns-then-k-j c = simp (c.raise.ensures, eq-eqb _ _ c.if-k-j.true)

-- src/counts.rt:34:1
pub returns : goal.returns
unfolding raised_at
returns c = simp (ne_eqb _ _ c.if-k-j.false)
