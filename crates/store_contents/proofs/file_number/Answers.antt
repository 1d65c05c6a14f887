use mathlib.Core.Path.{sym, ◌∙◌}
use Rattle.file_codec.specs.File.{limit, reader_of}
use Rattle.file_codec.proofs.Told.{told_made, told_refused}
use Rattle.store_contents.proofs.Numbers.{judged_sound, judged_refused}
use Rattle.store_contents.proofs.file_number.Goals as goal

pub returns-in-Ok : goal.returns-in-Ok
returns-in-Ok c =
    let a = c.args in
    let m = told_made _ (reader_of limit a.file.now a.asked) c.in-Ok.ensures.told in
    sym (judged_sound limit a.file.now a.asked m.0 m.1)

pub returns-in-Err : goal.returns-in-Err
returns-in-Err c =
    let a = c.args in
    c.number.ensures ∙ sym (judged_refused limit a.file.now a.asked _ (told_refused _ (reader_of limit a.file.now a.asked) c.in-Err.ensures.told))
