-- `trace_replay::step` meets its contract.
use mathlib.Core.Path.{refl, ap, ◌∙◌}
use Rattle.device.specs.declared.Device.{Device}
use Rattle.model.specs.Arrays.{answer_of, bytes_after}
use Rattle.model.proofs.Claims.{byte_mode_bytes}
use Rattle.model.proofs.Told.{answer_too}
use Rattle.units.specs.Units.{units, lent}
use Rattle.trace_replay.specs.Replays.{bench_t, array_by, line_step, step_told}
use Rattle.trace_replay.proofs.step.Goals as goal

pub returns : goal.returns
unfolding line_step step_told array_by lent
returns g c =
    let a = c.args in
    let e = c.bench.ensures in
    let both = answer_too bench_t a.s a.c a.array.now a.residue.now
    (c.cycle.ensures.result ∙ ap (λ (d : Device). answer_of d a.s a.c (lent d.part.word a.array.now) (units d.part.word a.residue.now)) e)
    (c.cycle.ensures.array_left ∙ ap (λ (d : Device). bytes_after d a.s a.c a.array.now a.residue.now) e
    ∙ byte_mode_bytes bench_t a.s a.c a.array.now a.residue.now refl) in record { result = both.0; told = both.1.0; array_left = both.1.1 }
