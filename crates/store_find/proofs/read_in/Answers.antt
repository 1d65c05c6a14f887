use borrow.Author.Rules.{rules}
use mathlib.Core.Path.{refl}
use mir.Syntax.{w32}
use mir.ValLaws.{to_z-of_z}
use Rattle.store_find.proofs.Standing.{stands_ends, read_refused, read_made}
use Rattle.store_find.proofs.Reading.{read_told, read_on}
use Rattle.store_find.proofs.read_in.Goals as goal

pub returns-then-s-ne0 : goal.returns-then-s-ne0
returns-then-s-ne0 c = let a = c.args in let k = c.seek-s in let both = read_told a.x a.room.now _ _ (read_refused a.main.now a.letter k.result k.ensures a.room.now c.if-s-ne0.true) refl refl refl in record { result = both.0; told = both.1.0; room_left = both.1.1 }

pub overflow_add-to : goal.overflow_add-to
overflow_add-to c = let a = c.args in let k = c.seek-s in let h = stands_ends a.main.now a.letter k.result k.ensures c.if-s-ne0.false in search rules

pub slice_bounds-reading_from_file-end : goal.slice_bounds-reading_from_file-end
slice_bounds-reading_from_file-end c = let a = c.args in let k = c.seek-s in stands_ends a.main.now a.letter k.result k.ensures c.if-s-ne0.false

pub returns : goal.returns
returns c = let a = c.args in let k = c.seek-s in let e = c.reading_from_file.ensures in let both = read_on a.x _ (to_z-of_z w32 a.x c.ranges.x) a.room.now _ _ (read_made a.main.now a.letter k.result k.ensures a.room.now c.if-s-ne0.false) _ _ e.result e.told e.room_left in record { result = both.0; told = both.1.0; room_left = both.1.1 }
