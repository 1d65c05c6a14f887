use borrow.Author.Rules.{rules}
use Rattle.store_find.proofs.Standing.{stands_ends, find_refused, find_37, find_done}
use Rattle.store_find.proofs.find_in.Goals as goal

pub returns-then-s-ne0 : goal.returns-then-s-ne0
returns-then-s-ne0 c = let a = c.args in let k = c.seek-s in let both = find_refused a.main.now a.letter k.result k.ensures a.room.now c.if-s-ne0.true in record { result = both.0; room_left = both.1 }

pub returns-then-room-size : goal.returns-then-room-size
returns-then-room-size c = let a = c.args in let k = c.seek-s in let both = find_37 a.main.now a.letter k.result k.ensures a.room.now c.if-s-ne0.false c.if-room-size.true in record { result = both.0; room_left = both.1 }

pub overflow_add-to : goal.overflow_add-to
overflow_add-to c = let a = c.args in let k = c.seek-s in let h = stands_ends a.main.now a.letter k.result k.ensures c.if-s-ne0.false in search rules

pub slice_bounds-copy-end : goal.slice_bounds-copy-end
slice_bounds-copy-end c = let a = c.args in let k = c.seek-s in stands_ends a.main.now a.letter k.result k.ensures c.if-s-ne0.false

pub returns : goal.returns
returns c = let a = c.args in let k = c.seek-s in let both = find_done a.main.now a.letter k.result k.ensures a.room.now c.if-s-ne0.false c.if-room-size.false _ c.copy.ensures in record { result = both.0; room_left = both.1 }
