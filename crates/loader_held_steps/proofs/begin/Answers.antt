use Rattle.loader_held_steps.proofs.begin.Reads as reads
use Rattle.loader_held_steps.proofs.begin.Lts as lts
use Rattle.loader_held.proofs.holds.pair_of.Reads as pair-of-reads
use Rattle.loader_held.proofs.holds.usually.Reads as usually-reads
use Rattle.loader_steps.proofs.front.record_at.Reads as record-at-reads
use Rattle.loader_held_steps.proofs.begin.Goals as goal

-- src/lib.rt:226:1
pub returns : goal.returns
returns c = simp (c.pair_of.ensures, c.usually.ensures, c.record_at.ensures)
