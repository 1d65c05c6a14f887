-- `loader_held_quick::added_searched` meets its contract: what was added, and what is still to be added, is all.
use mathlib.Core.Path.{◌≡◌}
use Prim.Native.Nat.{◌+◌, ◌-◌, ◌*◌, ◌≤◌}
use lib.ListN.{length}
use Rattle.loader_held_claims.specs.HeldMade.{added_in}
use Rattle.loader_held_quick.proofs.added_searched.Given as goal

abbrev pub invariant-loop-n : goal.invariant-loop-n
invariant-loop-n l =
    (l.n ≤ l.e)
    × (l.e ≡ l.d.erase)
    × (l.e ≤ 65535)
    × (l.k ≡ length l.addresses)
    × (l.added + added_in l.d l.addresses l.polls l.n (l.e - l.n) ≡ added_in l.d l.addresses l.polls 0 l.d.erase)
    × (l.added ≤ l.n * 131072)

abbrev pub decreases-loop-n : goal.decreases-loop-n
decreases-loop-n l = l.e - l.n
