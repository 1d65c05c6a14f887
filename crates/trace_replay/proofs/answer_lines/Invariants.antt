-- `trace_replay::answer_lines` meets its contract: after i rounds the first i answers stand; what is left to answer makes up the rest of
-- the answers and of the array.
use mathlib.Core.Path.{◌≡◌}
use mathlib.Core.List.{◌++◌}
use Prim.Native.Nat.{◌-◌, ◌*◌}
use lib.ListN.{take, drop}
use Rattle.trace_replay.specs.Replays.{answers_of, arrays_of}
use Rattle.trace_replay.proofs.answer_lines.Given as goal

abbrev pub invariant-loop-i : goal.invariant-loop-i
invariant-loop-i t l =
    (arrays_of (l.g - l.i) l.s l.array l.residue (drop (20 * l.i) l.text) ≡ arrays_of l.g l.initial.s l.initial.array l.residue l.text)
    × (take (8 * l.i) l.out ++ answers_of (l.g - l.i) l.s l.array l.residue (drop (20 * l.i) l.text) ≡ answers_of l.g l.initial.s l.initial.array l.residue l.text)
    × (drop (8 * l.i) l.out ≡ drop (8 * l.i) l.initial.out)
