-- `recording_replay::record_lines` meets its contract: after i rounds the first i lines stand, and what is left makes up the rest.
use mathlib.Core.Path.{◌≡◌}
use mathlib.Core.List.{◌++◌}
use Prim.Native.Nat.{◌+◌, ◌-◌, ◌*◌}
use lib.ListN.{take, drop}
use Rattle.trace_replay.specs.Replays.{arrays_of}
use Rattle.recording_replay.specs.Recorded.{lines_from, log_from}
use Rattle.recording_replay.proofs.record_lines.Given as goal

abbrev pub invariant-loop-i : goal.invariant-loop-i
invariant-loop-i l =
    (log_from (l.g - l.i) (l.i + 1) l.l l.array l.residue (drop (20 * l.i) l.text) ≡ log_from l.g 1 l.initial.l l.initial.array l.residue l.text)
    × (arrays_of (l.g - l.i) l.l.state l.array l.residue (drop (20 * l.i) l.text) ≡ arrays_of l.g l.initial.l.state l.initial.array l.residue l.text)
    × (take (31 * l.i) l.out ++ lines_from (l.g - l.i) l.l.state l.array l.residue (drop (20 * l.i) l.text) ≡ lines_from l.g l.initial.l.state l.initial.array l.residue l.text)
    × (drop (31 * l.i) l.out ≡ drop (31 * l.i) l.initial.out)
