-- `check_all` meets its contract: running sums of the bytes from a place on are what the weighted sum makes of them.
use mathlib.Core.Path.{◌≡◌}
use Prim.Native.Nat.{◌≤◌, ◌+◌, ◌*◌}
use lib.ListN.{length, drop}
use Rattle.file_check.specs.Check.{wsum}
use Rattle.file_check.specs.Inner.{sum_of}
use Rattle.file_check.proofs.check_all.Given as goal

abbrev pub invariant-loop-place : goal.invariant-loop-place
invariant-loop-place l =
    (l.place ≤ length l.bytes) × (l.sum ≡ sum_of (drop l.place l.bytes)) × (l.total ≡ 1 + wsum 1 (drop l.place l.bytes)) × (l.sum + 255 * l.place ≤ 130050) × (l.total + 130050 * l.place ≤ 300000000)
