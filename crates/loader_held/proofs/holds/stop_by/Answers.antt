use Rattle.loader_held.proofs.holds.stop_by.Reads as reads
use Rattle.loader_held.proofs.holds.stop_by.Lts as lts
use Rattle.loader_moves.proofs.ended_by.Reads as ended-by-reads
use Rattle.loader_held.proofs.holds.pair_of.Reads as pair-of-reads
use Rattle.loader_held.proofs.holds.usually.Reads as usually-reads
use Rattle.loader_held.proofs.holds.stop_by.Goals as goal

-- src/holds.rt:102:1
pub returns : goal.returns
returns c = simp (c.pair_of.ensures, c.usually.ensures, c.ended_by.ensures)
