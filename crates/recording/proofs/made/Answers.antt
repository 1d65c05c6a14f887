use mathlib.Core.Path.{refl, ap, ◌∙◌}
use mathlib.Core.List.{List}
use Prim.Native.Nat.{ℕ}
use Rattle.units.specs.Units.{units}
use Rattle.model.specs.Inner.{done_of}
use Rattle.recording.proofs.Judging.{none}
use Rattle.recording.proofs.made.Goals as goal

pub returns : goal.returns
returns c =
    let a = c.args in
    let put = c.put in record { result = refl; array_left = put.ensures.array_left ∙ ap (λ (rs : List ℕ). done_of a.x.effect a.part rs (units a.part.word a.array.now)) (none a.part.word); array_spare = put.ensures.array_spare }
