-- `loader_quick::is_stuck` meets its contract.
use Rattle.loader_quick.specs.Quick.{stuck_by}
use Rattle.loader_quick.proofs.is_stuck.Goals as goal

-- src/lib.rt:42:1
pub returns : goal.returns
unfolding stuck_by
returns c = simp (c.vpp_low.ensures, c.is_shut.ensures)
