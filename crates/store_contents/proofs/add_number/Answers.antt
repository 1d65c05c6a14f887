use native.Mathlib.Omega.{arith}
use mathlib.Core.Path.{sym, ◌∙◌}
use Rattle.store_contents.proofs.Numbers.{add_11, add_read, add_44, add_room, survey_bounds}
use Rattle.store_contents.proofs.add_number.Goals as goal

pub returns-then-room-size : goal.returns-then-room-size
returns-then-room-size c = let a = c.args in sym (add_11 a.main.now a.file.now a.letter a.room c.if-room-size.true)

pub returns-then-n-ne0 : goal.returns-then-n-ne0
returns-then-n-ne0 c = let a = c.args in let f = c.file_number-n.ensures in f ∙ sym (add_read a.main.now a.file.now a.letter a.room c.if-room-size.false (λ z. c.if-n-ne0.true (f ∙ z)))

pub returns-then-size-ne0 : goal.returns-then-size-ne0
returns-then-size-ne0 c = let a = c.args in let f = c.file_number-n.ensures in sym (add_44 a.main.now a.file.now a.letter a.room c.if-room-size.false (sym f ∙ c.if-n-ne0.false) c.if-size-ne0.true)

pub room_number-requires : goal.room_number-requires
room_number-requires c = let a = c.args in let q = c.requires in let t = c.if-size-ne0.false in (survey_bounds a.main.now a.letter _ a.s t q, omega arith)

pub returns : goal.returns
returns c = let a = c.args in let f = c.file_number-n.ensures in c.room_number.ensures ∙ sym (add_room a.main.now a.file.now a.letter a.room c.if-room-size.false (sym f ∙ c.if-n-ne0.false) c.if-size-ne0.false a.s c.requires)
