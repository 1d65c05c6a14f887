-- `loader_held_quick::added_rising` meets its contract: what was added is what the polls add that were looked at.
use mathlib.Core.Path.{◌≡◌}
use mathlib.Core.Bool.{false}
use Prim.Native.Nat.{ℕ, ◌*◌, ◌≤◌, ◌<◌}
use lib.ListN.{length, take}
use Rattle.loader_held.specs.Holds.{listed}
use Rattle.loader_held_claims.specs.HeldMade.{added_in}
use Rattle.loader_held_quick.proofs.added_rising.Given as goal

abbrev pub invariant-loop-p : goal.invariant-loop-p
invariant-loop-p l =
    (l.e ≡ l.d.erase)
    × (l.e ≤ 65535)
    × (l.k ≡ length l.addresses)
    × (l.added ≡ added_in l.d l.addresses (take l.p-index l.polls) 0 l.d.erase)
    × ((m : ℕ) → l.n < m → listed m (take l.p-index l.polls) ≡ false)
    × (l.added ≤ l.n * 131072)
    × (l.added ≤ l.e * 131072)
