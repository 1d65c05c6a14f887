-- `loader_held_quick::is_turned` meets its contract.
use mathlib.Core.Path.{ap}
use mathlib.Core.Bool.{◌&&◌}
use Prim.Native.Nat.{ℕ}
use lib.Dec.{eqb}
use Rattle.loader_held_quick.specs.HeldQuick.{turned_by}
use Rattle.loader_held_quick.proofs.is_turned.Goals as goal

pub returns : goal.returns
unfolding turned_by
returns c = let a = c.args in record { result = ap (λ (m : ℕ). a.last && eqb a.count m) c.bare_count.ensures.result; timed = c.bare_count.ensures.timed }
