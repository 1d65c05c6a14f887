use Rattle.loader_held_steps.proofs.place_next.Reads as reads
use Rattle.loader_held_steps.proofs.place_next.Lts as lts
use Rattle.loader_held.proofs.holds.next_place.Reads as next-place-reads
use Rattle.loader_held_steps.proofs.place_next.Goals as goal

-- src/lib.rt:111:1
pub returns-in-Fetching : goal.returns-in-Fetching
returns-in-Fetching c = simp (c.next_place.ensures, c.in-Fetching.is)
