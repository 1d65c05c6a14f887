-- `c_recording::passed` meets its contract.
use mathlib.Core.Path.{refl}
use mathlib.Core.Bool.{false}
use Rattle.c_recording.specs.Known.{state_of}
use Rattle.c_cycle.specs.Values.{device_in, state_in}
use Rattle.c_recording.proofs.passed.Goals as goal

pub returns : goal.returns
returns c = let a = c.args in let e = c.following.ensures in ((λ i. record { device = device_in a.w.device; state = state_in (state_of a.x.key a.x.rest a.w.wear); number = a.w.number; stopped = false; at = e i }), refl, refl)
