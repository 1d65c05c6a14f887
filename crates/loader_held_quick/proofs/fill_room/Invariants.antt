-- `loader_held_quick::fill_room` meets its contract: the first units of the room are those read.
use mathlib.Core.Path.{◌≡◌}
use Rattle.common.specs.Lists.{overwritten}
use Rattle.units.specs.Units.{units, spare}
use Rattle.loader_held_claims.specs.HeldMade.{read_at}
use Rattle.loader_held_quick.proofs.fill_room.Given as goal

abbrev pub invariant-loop-i : goal.invariant-loop-i
invariant-loop-i l =
    (units l.word l.room ≡ overwritten l.i (read_at (units l.word l.array) l.addresses) (units l.word l.initial.room))
    × (spare l.word l.room ≡ spare l.word l.initial.room)
