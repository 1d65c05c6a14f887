use Rattle.loader_stores.specs.Stores.{erased_well}
use Rattle.loader_stores.proofs.erased_well.Goals as goal

-- src/lib.rt:-6:1
pub returns : goal.returns
unfolding erased_well
returns c = simp (c.erase_end.ensures, c.is_ready.ensures)
