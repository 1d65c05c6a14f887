-- `loader_held_quick::next_listed` meets its contract: the lowest of those that were looked at, and what is left to look at.
use Rattle.loader_held_quick.proofs.Listing.{Looked}
use Rattle.loader_held_quick.proofs.next_listed.Given as goal

abbrev pub invariant-loop-p : goal.invariant-loop-p
invariant-loop-p l = Looked l.from l.past l.polls l.p-index l.r
