use Rattle.recording_walk.specs.Lists.{ends_well}
use Rattle.recording_walk.proofs.ends_well.Goals as goal

pub returns : goal.returns
unfolding ends_well
returns c = simp (c.is_free.ensures, c.same.ensures)
