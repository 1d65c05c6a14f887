-- `device::holder_at` meets its contract: the blocks that are left hold the place that is left.
use Rattle.std.proofs.Common.{◌≡◌, ◌+◌}
use lib.ListN.{drop}
use Rattle.device.specs.Blocks.{holder}
use Rattle.device.proofs.holder_at.Given as goal

abbrev pub invariant-loop-k : goal.invariant-loop-k
invariant-loop-k l = l.k + holder (drop l.k l.l-items) l.rest ≡ holder l.l-items l.place
