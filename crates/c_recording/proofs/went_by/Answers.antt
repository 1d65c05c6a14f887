-- `c_recording::went_by` meets its contract.
use mathlib.Core.Path.{refl}
use Rattle.c_recording.specs.Known.{state_of}
use Rattle.c_cycle.specs.Values.{device_in, state_in}
use Rattle.c_recording.proofs.went_by.Goals as goal

pub returns : goal.returns
returns c = let a = c.args in let e = c.place_after.ensures in ((λ i. record { device = device_in a.w.device; state = state_in (state_of a.x.key a.x.rest a.x.wear); number = a.w.number; stopped = a.x.fault; at = e i }), refl, refl)
