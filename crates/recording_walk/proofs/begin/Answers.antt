use Rattle.recording_walk.specs.Inner.{walk_from}
use Rattle.recording_walk.proofs.begin.Goals as goal

pub returns : goal.returns
unfolding walk_from
returns c = simp c.start_number-number.ensures
