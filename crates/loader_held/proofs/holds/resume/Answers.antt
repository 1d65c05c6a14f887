use Rattle.loader_held.proofs.holds.resume.Reads as reads
use Rattle.loader_held.proofs.holds.resume.Lts as lts
use Rattle.loader_moves.proofs.moved.Reads as moved-reads
use Rattle.loader_held.proofs.holds.after_poll.Reads as after-poll-reads
use Rattle.loader_held.proofs.holds.pair_of.Reads as pair-of-reads
use Rattle.loader_held.proofs.holds.resume.Goals as goal

-- src/holds.rt:155:1
pub returns : goal.returns
returns c = simp (c.pair_of.ensures, c.after_poll.ensures, c.moved.ensures)
