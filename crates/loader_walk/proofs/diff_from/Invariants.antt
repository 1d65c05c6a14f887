-- `loader::walk::diff_from` meets its contract: what is left to look at is what was to look at.
use mathlib.Core.Path.{◌≡◌}
use Prim.Native.Nat.{◌-◌, ◌≤◌, max}
use Rattle.units.specs.Units.{units}
use Rattle.loader_walk.specs.Walks.{next_diff, diff_from}
use Rattle.loader_walk.proofs.diff_from.Given as goal

abbrev pub invariant-loop-i : goal.invariant-loop-i
invariant-loop-i l =
    (next_diff (l.n - l.i) l.i (units l.word l.wanted) (units l.word l.scratch) ≡ diff_from l.from (units l.word l.wanted) (units l.word l.scratch)) × (l.i ≤ max l.from l.n)
