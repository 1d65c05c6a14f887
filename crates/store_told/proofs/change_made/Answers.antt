-- `store_told::change_made` meets its contract.
use mathlib.Core.Path.{ap, ◌∙◌}
use borrow.Author.Tests.{eq-eqb, ne_eqb}
use Rattle.verify_answer.proofs.AnswerCases.{room_left}
use Rattle.store.specs.Stores.{ChangeLeft}
use Rattle.store_told.specs.Sayings.{bytes_of, change_of}
use Rattle.store_told.proofs.AnswerCases.{change_add, change_drop}
use Rattle.store_told.proofs.change_made.Goals as goal

pub returns-then-b-eq65 : goal.returns-then-b-eq65
returns-then-b-eq65 c =
    let a = c.args in
    let b = c.block_bytes-n in
    let s = c.fresh-s in
    let r = c.add_file in
    let M = a.memory.now in
    let S = a.scratch.now in
    let Z = change_of a.b a.part a.image.now M S a.file.now a.letter in
    let e = change_add a.b a.part a.image.now M S a.file.now a.letter b.result s.result b.ensures s.ensures (eq-eqb _ _ c.if-b-eq65.true) in record { result = r.ensures.result ∙ ap (λ (z : ChangeLeft). z.ran) e; image_left = r.ensures.array_left ∙ ap (λ (z : ChangeLeft). z.bytes) e; memory_left = room_left b.result (bytes_of a.part M S) M _ Z.memory b.ensures (r.ensures.memory_left ∙ ap (λ (z : ChangeLeft). z.memory) e); scratch_left = room_left b.result (bytes_of a.part M S) S _ Z.scratch b.ensures (r.ensures.scratch_left ∙ ap (λ (z : ChangeLeft). z.scratch) e) }

pub returns : goal.returns
returns c =
    let a = c.args in
    let b = c.block_bytes-n in
    let s = c.fresh-s in
    let r = c.drop_letter in
    let M = a.memory.now in
    let S = a.scratch.now in
    let Z = change_of a.b a.part a.image.now M S a.file.now a.letter in
    let e = change_drop a.b a.part a.image.now M S a.file.now a.letter b.result s.result b.ensures s.ensures (ne_eqb _ _ c.if-b-eq65.false) in record { result = r.ensures.result ∙ ap (λ (z : ChangeLeft). z.ran) e; image_left = r.ensures.array_left ∙ ap (λ (z : ChangeLeft). z.bytes) e; memory_left = room_left b.result (bytes_of a.part M S) M _ Z.memory b.ensures (r.ensures.memory_left ∙ ap (λ (z : ChangeLeft). z.memory) e); scratch_left = room_left b.result (bytes_of a.part M S) S _ Z.scratch b.ensures (r.ensures.scratch_left ∙ ap (λ (z : ChangeLeft). z.scratch) e) }
