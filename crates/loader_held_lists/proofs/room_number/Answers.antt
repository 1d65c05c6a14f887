use borrow.Author.Tests.{lt-ltb, le-ltb}
use mathlib.Core.Path.{sym, ◌∙◌}
use Rattle.loader_held_lists.specs.Listings.{room_number}
use Rattle.loader_held_lists.proofs.room_number.Goals as goal

-- src/lib.rt:69:9
pub returns-then-n-gt4096 : goal.returns-then-n-gt4096
unfolding room_number
returns-then-n-gt4096 c = simp (lt-ltb _ _ c.if-n-gt4096.true)

-- src/lib.rt:72:9
pub returns-then-short_room : goal.returns-then-short_room
unfolding room_number
returns-then-short_room c = simp (sym c.short_room.ensures ∙ c.if-short_room.true, le-ltb _ _ c.if-n-gt4096.false)

-- src/lib.rt:65:1
pub returns : goal.returns
unfolding room_number
returns c = simp (sym c.short_room.ensures ∙ c.if-short_room.false, le-ltb _ _ c.if-n-gt4096.false)
