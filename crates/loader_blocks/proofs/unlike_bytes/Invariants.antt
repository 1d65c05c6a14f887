-- `loader_blocks::unlike_bytes` meets its contract: those that differ so far, and those among the rest, are all that differ.
use mathlib.Core.Path.{◌≡◌}
use Prim.Native.Nat.{◌+◌, ◌-◌, ◌≤◌}
use lib.ListN.{length}
use Rattle.loader_blocks.specs.Blocks.{costs}
use Rattle.loader_blocks.proofs.unlike_bytes.Given as goal

abbrev pub invariant-loop-i : goal.invariant-loop-i
invariant-loop-i l =
    (l.i ≤ l.n)
    × (l.n ≡ length l.wanted)
    × (l.count + costs (length l.wanted - l.i) 1 l.i l.wanted l.scratch ≡ costs (length l.wanted) 1 0 l.wanted l.scratch)
    × (l.count ≤ l.i)

abbrev pub decreases-loop-i : goal.decreases-loop-i
decreases-loop-i l = l.n - l.i
