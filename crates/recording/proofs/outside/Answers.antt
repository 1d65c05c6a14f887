use mathlib.Core.Path.{refl}
use Rattle.recording.specs.Recordings.{outside}
use Rattle.recording.proofs.outside.Goals as goal

pub returns : goal.returns
unfolding outside
returns c = refl
