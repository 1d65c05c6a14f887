-- `store_told::put_read` meets its contract.
use mathlib.Core.Path.{ap, ◌∙◌}
use lib.IntN.{ℤ}
use lib.ListN.{length}
use mir.Syntax.{w32}
use mir.ValLaws.{to_z-of_z}
use Rattle.text.specs.Writing.{laid_at, behind}
use Rattle.reading.specs.declared.ReadingAnswer.{ReadingAnswer}
use Rattle.reading.specs.Readings.{answer_as}
use Rattle.file_codec.specs.File.{in_room}
use Rattle.store_find.specs.Finds.{read_by}
use Rattle.store.specs.Stores.{found_on}
use Rattle.store_told.specs.Sayings.{answer_line}
use Rattle.store_told.proofs.put_read.Goals as goal

pub returns : goal.returns
returns c =
    let a = c.args in
    let p = c.put_answer in
    let r = c.read_letter-answer in
    let o = in_room (length a.memory.now) (read_by a.letter (found_on a.part a.image.now a.letter)) in
    let e = r.ensures.result ∙ ap (λ (z : ℤ). answer_as z o) (to_z-of_z w32 a.x c.ranges.x) in record { result = p.ensures.result ∙ ap (λ (z : ReadingAnswer). behind a.out.now 0 (answer_line z)) e; out_left = p.ensures.out_left ∙ ap (λ (z : ReadingAnswer). laid_at a.out.now 0 (answer_line z)) e; memory_left = r.ensures.room_left }
