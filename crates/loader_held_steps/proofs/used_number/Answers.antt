use Rattle.loader_held_lists.specs.Listings.{room_number}
use borrow.Author.Tests.{lt-ltb, le-ltb}
use mathlib.Core.Path.{sym, ◌∙◌}
use Rattle.loader_held_steps.specs.HeldFront.{used_number}
use Rattle.loader_held_steps.proofs.used_number.Reads as reads
use Rattle.loader_held_steps.proofs.used_number.Lts as lts
use Rattle.loader_held_lists.proofs.in_loaded.Reads as in-loaded-reads
use Rattle.loader_held_lists.proofs.past_array.Reads as past-array-reads
use Rattle.loader_held_lists.proofs.room_number.Reads as room-number-reads
use Rattle.loader_held_steps.proofs.used_number.Goals as goal

-- src/lib.rt:134:13
pub returns-then-past_array : goal.returns-then-past_array
unfolding used_number
returns-then-past_array c = simp (sym c.past_array.ensures ∙ c.if-past_array.true, lt-ltb _ _ c.if-i-k.true)

-- src/lib.rt:137:13
pub returns-then-in_loaded : goal.returns-then-in_loaded
unfolding used_number
returns-then-in_loaded c = simp (sym c.in_loaded.ensures ∙ c.if-in_loaded.true, sym c.past_array.ensures ∙ c.if-past_array.false, lt-ltb _ _ c.if-i-k.true)

-- src/lib.rt:139:9
pub returns-then-i-k : goal.returns-then-i-k
unfolding used_number room_number
returns-then-i-k c = simp (c.room_number.ensures, sym c.in_loaded.ensures ∙ c.if-in_loaded.false, sym c.past_array.ensures ∙ c.if-past_array.false, lt-ltb _ _ c.if-i-k.true)

-- src/lib.rt:126:1
pub returns : goal.returns
unfolding used_number room_number
returns c = simp (c.room_number-2.ensures, le-ltb _ _ c.if-i-k.false)
