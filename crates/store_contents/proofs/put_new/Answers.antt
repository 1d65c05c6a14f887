use borrow.Author.Rules.{rules}
use mathlib.Core.Path.{sym, ◌∙◌}
use Rattle.store_contents.proofs.Numbers.{memory_new, memory_was}
use Rattle.store_contents.proofs.Putting.{slide_lets, lay_lets, lay_made, slide_room, slide_done}
use Rattle.store_contents.proofs.put_new.Goals as goal

pub returns-then-number-ne0 : goal.returns-then-number-ne0
returns-then-number-ne0 c = sym (memory_was _ _ _ c.if-number-ne0.true)

pub overflow_mul-s : goal.overflow_mul-s
overflow_mul-s c = let a = c.args in let q = c.requires in let z = q.1 c.if-number-ne0.false in let h = lay_lets a.main.now a.file.now a.letter a.s q.0 a.memory.now z c.if-s.true in search rules

pub overflow_mul-s-then-s : goal.overflow_mul-s-then-s
overflow_mul-s-then-s c = let a = c.args in let q = c.requires in let z = q.1 c.if-number-ne0.false in let h = lay_lets a.main.now a.file.now a.letter a.s q.0 a.memory.now z c.if-s.true in search rules

pub lay-requires : goal.lay-requires
lay-requires c = let a = c.args in let q = c.requires in let z = q.1 c.if-number-ne0.false in lay_lets a.main.now a.file.now a.letter a.s q.0 a.memory.now z c.if-s.true

pub returns-then-s : goal.returns-then-s
returns-then-s c = let a = c.args in let q = c.requires in let z = q.1 c.if-number-ne0.false in c.lay.ensures ∙ lay_made a.main.now a.file.now a.letter a.s q.0 a.memory.now z c.if-s.true ∙ sym (memory_new _ _ _ c.if-number-ne0.false)

pub slide-at-requires : goal.slide-at-requires
slide-at-requires c = let a = c.args in let q = c.requires in let z = q.1 c.if-number-ne0.false in slide_lets a.main.now a.file.now a.letter a.s q.0 a.memory.now z

pub put_behind-requires : goal.put_behind-requires
put_behind-requires c = let a = c.args in let q = c.requires in let z = q.1 c.if-number-ne0.false in let v = c.slide-at in slide_room a.main.now a.file.now a.letter a.s q.0 a.memory.now z c.if-s.false v.new.memory v.result v.auto.memory v.ensures.result

pub returns : goal.returns
returns c = let a = c.args in let q = c.requires in let z = q.1 c.if-number-ne0.false in let v = c.slide-at in c.put_behind.ensures ∙ slide_done a.main.now a.file.now a.letter a.s q.0 a.memory.now z c.if-s.false v.new.memory v.result v.auto.memory v.ensures.result v.ensures.memory_live ∙ sym (memory_new _ _ _ c.if-number-ne0.false)
