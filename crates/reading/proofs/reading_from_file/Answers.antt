use mathlib.Core.Path.{sym, ap, ◌∙◌}
use mathlib.Core.List.{List}
use Prim.Native.Nat.{ℕ}
use lib.ListN.{length}
use mir.Syntax.{w32}
use mir.ValLaws.{to_z-of_z}
use Rattle.file_codec.specs.File.{limit, reader_of, in_room}
use Rattle.file_codec.proofs.Told.{told_refused, given_back}
use Rattle.reading.specs.Readings.{table_answer, answer_as}
use Rattle.reading.specs.declared.ReadingAnswer.TheVariants.{Refused}
use Rattle.reading.proofs.Told.{file_too}
use Rattle.reading.proofs.reading_from_file.Goals as goal

pub slice_bounds-judged_reading-end : goal.slice_bounds-judged_reading-end
slice_bounds-judged_reading-end c = let a = c.args in (given_back a.room.now (in_room (length a.room.now) (reader_of limit a.file.now a.letter)) _ _ c.in-Ok.ensures.told c.in-Ok.ensures.out_left).fits

pub returns-in-Err : goal.returns-in-Err
returns-in-Err c =
    let a = c.args in
    let o = in_room (length a.room.now) (reader_of limit a.file.now a.letter) in
    let both = file_too a.x o (ap Refused c.number.ensures ∙ sym (ap (answer_as a.x) (told_refused _ o c.in-Err.ensures.told))) c.in-Err.ensures.out_left in
    record { result = both.0; told = both.1.0; room_left = both.1.1 }

pub returns-in-Ok : goal.returns-in-Ok
returns-in-Ok c =
    let a = c.args in
    let o = in_room (length a.room.now) (reader_of limit a.file.now a.letter) in
    let g = given_back a.room.now o _ _ c.in-Ok.ensures.told c.in-Ok.ensures.out_left in
    let both = file_too a.x o
    (c.judged_reading.ensures ∙ ap (table_answer _) (to_z-of_z w32 a.x c.ranges.x) ∙ ap (λ (z : List ℕ). table_answer z a.x) g.front ∙ sym (ap (answer_as a.x) g.outcome)) c.in-Ok.ensures.out_left in
    record { result = both.0; told = both.1.0; room_left = both.1.1 }
