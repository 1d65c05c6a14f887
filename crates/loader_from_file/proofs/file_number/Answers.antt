use mathlib.Core.Path.{sym, ◌∙◌}
use Rattle.file_codec.specs.File.{limit, reader_of}
use Rattle.file_codec.proofs.Told.{told_made, told_refused}
use Rattle.loader_from_file.proofs.Judging.{longer_30, sound_0, refused_m}
use Rattle.loader_from_file.proofs.file_number.Goals as goal

pub returns-then-n-file : goal.returns-then-n-file
returns-then-n-file c = let a = c.args in sym (longer_30 a.file.now a.asked a.n c.if-n-file.true)

pub returns-in-Ok : goal.returns-in-Ok
returns-in-Ok c =
    let a = c.args in
    let m = told_made _ (reader_of limit a.file.now a.asked) c.in-Ok.ensures.told in
    sym (sound_0 a.file.now a.asked a.n m.0 c.if-n-file.false m.1)

pub returns-in-Err : goal.returns-in-Err
returns-in-Err c =
    let a = c.args in
    c.number.ensures ∙ sym (refused_m a.file.now a.asked a.n _ c.if-n-file.false (told_refused _ (reader_of limit a.file.now a.asked) c.in-Err.ensures.told))
