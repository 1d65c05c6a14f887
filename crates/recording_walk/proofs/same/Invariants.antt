-- `recording_walk::same` meets its contract: the bits gathered, and what is left, say what both lists say.
use mathlib.Core.Path.{◌≡◌}
use mathlib.Core.Bool.{◌&&◌}
use lib.Dec.{eqb}
use lib.ListN.{drop}
use Rattle.recording_walk.specs.Lists.{same_bytes}
use Rattle.recording_walk.proofs.same.Given as goal

abbrev pub invariant-loop-i : goal.invariant-loop-i
invariant-loop-i l = (eqb l.bits 0 && same_bytes (drop l.i l.a) (drop l.i l.b)) ≡ same_bytes l.a l.b
