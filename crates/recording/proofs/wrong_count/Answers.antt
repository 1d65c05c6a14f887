use Rattle.recording.specs.Recordings.{wrong_count}
use Rattle.recording.proofs.wrong_count.Goals as goal

pub returns : goal.returns
unfolding wrong_count
returns c = simp (c.miscounts.ensures, c.starts.ensures)
