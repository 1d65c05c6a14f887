use Rattle.loader_stores.specs.Stores.{programmed_well}
use Rattle.loader_stores.proofs.programmed_well.Goals as goal

pub returns : goal.returns
unfolding programmed_well
returns c = simp (c.program_end.ensures, c.is_ready.ensures)
