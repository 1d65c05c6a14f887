use mathlib.Core.Path.{ap₂, ◌∙◌}
use mathlib.Core.Bool.{Bool}
use Rattle.loader.specs.declared.Stage.{Stage}
use Rattle.loader_steps.specs.Front.{record_at}
use Rattle.loader_run.proofs.record_for.Goals as goal

pub returns : goal.returns
returns c =
    let a = c.args in
    c.record_at.ensures ∙ ap₂ (λ (g : Stage) (v : Bool). record_at a.j.device.part a.j.pins a.j.block g v) c.first_stage-stage.ensures c.verifies-verify.ensures
