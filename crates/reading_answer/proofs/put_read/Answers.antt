-- `reading_answer::put_read` meets its contract.
use mathlib.Core.Path.{ap, ◌∙◌}
use lib.IntN.{ℤ}
use lib.ListN.{length}
use mir.Syntax.{w32}
use mir.ValLaws.{to_z-of_z}
use Rattle.text.specs.Writing.{laid_at, behind}
use Rattle.file_codec.specs.File.{limit, in_room, reader_of}
use Rattle.reading.specs.Readings.{answer_as}
use Rattle.reading.specs.declared.ReadingAnswer.{ReadingAnswer}
use Rattle.reading_answer.specs.Lines.{answer_line}
use Rattle.reading_answer.proofs.put_read.Goals as goal

pub returns : goal.returns
returns c =
    let a = c.args in
    let out = a.out.now in
    let r = c.reading_from_file-answer in
    let p = c.put_answer in
    let o = in_room (length a.room.now) (reader_of limit a.file.now a.letter) in
    let e = r.ensures.result ∙ ap (λ (z : ℤ). answer_as z o) (to_z-of_z w32 a.x c.ranges.x) in
    record { result = p.ensures.result ∙ ap (λ (z : ReadingAnswer). behind out 0 (answer_line z)) e; out_left = p.ensures.out_left ∙ ap (λ (z : ReadingAnswer). laid_at out 0 (answer_line z)) e; room_left = r.ensures.room_left }
