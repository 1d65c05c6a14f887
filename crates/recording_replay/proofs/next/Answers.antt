-- `recording_replay::next` meets its contract.
use mathlib.Core.Path.{◌≡◌, ap, ◌∙◌}
use Rattle.common.specs.Lists.{copied}
use Rattle.model_types.specs.declared.Cycle.{Cycle}
use Rattle.trace_lines.specs.Lines.{cycle_stated}
use Rattle.trace_replay.specs.Replays.{bench_t, line_step, array_by}
use Rattle.recording_replay.specs.Recorded.{busy_of, log_by, line_for}
use Rattle.recording_replay.proofs.next.Goals as goal

pub returns : goal.returns
returns c =
    let a = c.args in
    let e = c.cycle_in-c.ensures in
    let b = c.bench-d.ensures in
    let n = c.busy_of-busy.ensures in
    let k = c.step-a.ensures in
    let w = c.write_line.ensures in
    let f : c.step-a.result ≡ line_step a.l.state (cycle_stated a.line.now) a.array.now a.residue.now =
    k.result ∙ ap (λ (x : Cycle). line_step a.l.state x a.array.now a.residue.now) e in
    let m : c.busy_of-busy.result ≡ busy_of bench_t a.l.state (cycle_stated a.line.now) = n ∙ (λ i. busy_of (b i) a.l.state (e i)) in record { result = c.log_by.ensures ∙ (λ i. log_by (b i) a.l a.n (e i) (f i)); array_left = k.array_left ∙ ap (λ (x : Cycle). array_by a.l.state x a.array.now a.residue.now) e; out_left = w ∙ (λ i. copied a.out.now (line_for a.line.now (f i).seen (m i))) }
