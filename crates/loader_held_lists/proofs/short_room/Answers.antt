use mathlib.Core.Path.{ap, ◌∙◌}
use Prim.Native.Nat.{ℕ}
use lib.Dec.{ltb}
use Rattle.loader_held_lists.specs.Listings.{short_room}
use Rattle.loader_held_lists.proofs.Looking.{short_units}
use Rattle.loader_held_lists.proofs.short_room.Goals as goal

pub returns : goal.returns
unfolding short_room
returns c =
    let a = c.args in
    ap (λ (x : ℕ). ltb x a.n) c.units_in.ensures ∙ short_units a.word a.n a.room
