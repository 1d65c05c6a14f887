-- `trace_wear::next` meets its contract.
use mathlib.Core.Path.{ap, ◌∙◌}
use Rattle.model_types.specs.declared.Cycle.{Cycle}
use Rattle.model.specs.declared.Answer.{Answer}
use Rattle.trace_replay.specs.Replays.{array_by, line_step}
use Rattle.trace_wear.proofs.next.Goals as goal

pub returns : goal.returns
returns c =
    let a = c.args in
    let e = c.cycle_in-c.ensures in
    let k = c.step-a.ensures in record { result = ap (λ (x : Answer). x.state) (k.result ∙ ap (λ (x : Cycle). line_step a.s x a.array.now a.residue.now) e); array_left = k.array_left ∙ ap (λ (x : Cycle). array_by a.s x a.array.now a.residue.now) e }
