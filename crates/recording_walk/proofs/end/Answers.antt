use mathlib.Core.Path.{refl}
use Rattle.recording_walk.proofs.Going.{closes}
use Rattle.recording_walk.proofs.end.Goals as goal

pub returns : goal.returns
returns c =
    let a = c.args in
    (closes a.w a.promised.now a.array.now _ c.ends_well.ensures, refl)
