-- `wear::pairs` meets its contract: what is left of the column leads to what was to be made of it.
use mathlib.Core.Path.{◌≡◌}
use Prim.Native.Nat.{◌-◌, ◌*◌}
use Rattle.wear.specs.Columns.{column_from, Room}
use Rattle.wear.proofs.pairs.Given as goal

abbrev pub invariant-loop-i : goal.invariant-loop-i
invariant-loop-i l = (column_from (2 * l.m - 2 * l.i) (2 * l.i) l.k l.s l.t ≡ column_from (2 * l.m) 0 l.k l.s l.initial.t) × Room (2 * l.i) l.t
