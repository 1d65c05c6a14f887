-- `c_recording::ended` meets its contract.
use mathlib.Core.Path.{ap, ◌∙◌}
use Rattle.recording_walk.specs.declared.Checked.{Checked}
use Rattle.recording_walk.specs.Inner.{end_of}
use Rattle.c_cycle.specs.Values.{state_in}
use Rattle.c_recording.specs.Records.{checked_out}
use Rattle.c_recording.proofs.ended.Goals as goal

pub returns : goal.returns
returns c = let a = c.args in let came = c.end-checked.ensures in let dev = c.device_in-d.ensures in let sta = c.state_in-s.ensures ∙ ap state_in c.state_of.ensures in (c.checked_out.ensures ∙ ap (λ (x : Checked). checked_out a.state x) (came.0 ∙ (λ i. end_of (record { device = dev i; state = sta i; number = a.w.number; stopped = a.w.stopped; at = a.w.at }) a.promised.now a.array.now)), came.1)
