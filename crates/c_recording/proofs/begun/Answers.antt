-- `c_recording::begun` meets its contract.
use mathlib.Core.Path.{ap, ◌∙◌}
use Rattle.recording_walk.specs.Inner.{walk_from}
use Rattle.c_cycle.specs.Values.{device_in, state_in}
use Rattle.c_recording.specs.Known.{state_of}
use Rattle.c_recording.proofs.Moving.{parts_back}
use Rattle.c_recording.proofs.begun.Goals as goal

pub returns : goal.returns
unfolding walk_from
returns c = let a = c.args in let k = c.key_of.ensures in let l = c.rest_of.ensures in let t = a.state in let dev = c.device_in-d.ensures in let sta = c.state_in-s.ensures in let e = c.begin-w.ensures ∙ (λ i. walk_from (dev i) (sta i) a.n) in let back = ap state_in ((λ i. state_of (k.0 i) (l.0 i) t.wear) ∙ parts_back t k.1 k.2 k.3 l.1 l.2) in ((λ i. record { device = device_in a.device; state = back i; number = (e i).number; stopped = (e i).stopped; at = (e i).at }), c.units_for.ensures)
