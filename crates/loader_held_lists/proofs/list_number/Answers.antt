use mathlib.Core.Path.{sym, ◌∙◌}
use Rattle.loader_held_lists.specs.Listings.{held_number, room_number}
use Rattle.loader_held_lists.proofs.list_number.Goals as goal

-- src/lib.rt:99:9
pub returns-then-some_past : goal.returns-then-some_past
unfolding held_number
returns-then-some_past c = simp (sym c.some_past.ensures ∙ c.if-some_past.true)

-- src/lib.rt:102:9
pub returns-then-some_loaded : goal.returns-then-some_loaded
unfolding held_number
returns-then-some_loaded c = simp (sym c.some_loaded.ensures ∙ c.if-some_loaded.true, sym c.some_past.ensures ∙ c.if-some_past.false)

-- src/lib.rt:95:1
pub returns : goal.returns
unfolding held_number room_number
returns c = simp (c.room_number.ensures, sym c.some_loaded.ensures ∙ c.if-some_loaded.false, sym c.some_past.ensures ∙ c.if-some_past.false)
