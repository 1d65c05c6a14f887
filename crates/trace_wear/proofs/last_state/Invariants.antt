-- `trace_wear::last_state` meets its contract: after i rounds what is left to replay leads where the whole leads.
use mathlib.Core.Path.{◌≡◌}
use Prim.Native.Nat.{◌-◌, ◌*◌}
use lib.ListN.{drop}
use Rattle.trace_replay.specs.Replays.{arrays_of}
use Rattle.trace_wear.specs.Inner.{states_of}
use Rattle.trace_wear.proofs.last_state.Given as goal

abbrev pub invariant-loop-i : goal.invariant-loop-i
invariant-loop-i l =
    (states_of (l.g - l.i) l.s l.array l.residue (drop (20 * l.i) l.text) ≡ states_of l.g l.initial.s l.initial.array l.residue l.text)
    × (arrays_of (l.g - l.i) l.s l.array l.residue (drop (20 * l.i) l.text) ≡ arrays_of l.g l.initial.s l.initial.array l.residue l.text)
