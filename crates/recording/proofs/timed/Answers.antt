use mathlib.Core.Path.{refl}
use Rattle.recording.proofs.timed.Goals as goal

pub returns : goal.returns
returns c = refl
