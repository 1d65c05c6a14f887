use Rattle.recording.specs.Recordings.{time_of}
use Rattle.recording.specs.Inner.{time_by}
use Rattle.recording.proofs.time_of.Goals as goal

pub returns : goal.returns
unfolding time_of time_by
returns c = simp (c.time_by.ensures, c.starts.ensures)
