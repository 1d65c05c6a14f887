-- `c_recording::judged` meets its contract.
use mathlib.Core.Path.{ap, ◌∙◌}
use Rattle.recording.specs.Recordings.{recorded_of, bytes_recorded}
use Rattle.c_cycle.specs.Values.{state_in}
use Rattle.c_cycle.proofs.Border.{state_back_lem}
use Rattle.c_recording.specs.Known.{state_of}
use Rattle.c_recording.proofs.Moving.{parts_back}
use Rattle.c_recording.proofs.judged.Goals as goal

pub returns : goal.returns
returns c = let a = c.args in let x = c.step_record-x.result in let t = c.state_out-t.result in let k = c.key_of.ensures in let l = c.rest_of.ensures in let xs = a.array.now in let dev = c.device_in.ensures in let sta = c.state_in.ensures in let rec = c.record_in.ensures in let back = ap state_in ((λ i. state_of (k.0 i) (l.0 i) t.wear) ∙ parts_back t k.1 k.2 k.3 l.1 l.2 ∙ c.state_out-t.ensures) ∙ state_back_lem x.state in record { result = (λ i. record { fault = x.fault; state = back i }) ∙ c.step_record-x.ensures.result ∙ (λ i. recorded_of (dev i) (sta i) (rec i) xs); array_left = c.step_record-x.ensures.array_left ∙ (λ i. bytes_recorded (dev i) (sta i) (rec i) xs) }
