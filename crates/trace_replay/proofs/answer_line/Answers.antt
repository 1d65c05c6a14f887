-- `trace_replay::answer_line` meets its contract.
use mathlib.Core.Path.{◌≡◌, ap, ◌∙◌}
use Rattle.common.specs.Lists.{copied}
use Rattle.model_types.specs.declared.Cycle.{Cycle}
use Rattle.model.specs.declared.Answer.{Answer}
use Rattle.trace_lines.specs.Lines.{cycle_stated}
use Rattle.trace_replay.specs.Answers.{printed_of}
use Rattle.trace_replay.specs.Replays.{array_by, line_step}
use Rattle.trace_replay.proofs.answer_line.Goals as goal

pub returns : goal.returns
returns g c =
    let a = c.args in
    let e = c.cycle_in-c.ensures in
    let k = c.step-a.ensures in
    let f : c.step-a.result ≡ line_step a.s (cycle_stated a.line.now) a.array.now a.residue.now = k.result ∙ ap (λ (x : Cycle). line_step a.s x a.array.now a.residue.now) e in record { result = ap (λ (x : Answer). x.state) f; array_left = k.array_left ∙ ap (λ (x : Cycle). array_by a.s x a.array.now a.residue.now) e; out_left = c.write_answer.ensures ∙ ap (λ (x : Answer). copied a.out.now (printed_of x)) f }
