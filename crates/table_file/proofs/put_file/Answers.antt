-- `table_file::put_file` meets its contract.
use mathlib.Core.Path.{ap, ◌∙◌}
use Prim.Native.Nat.{ℕ}
use lib.ListN.{length}
use Rattle.text.specs.Writing.{laid_at, behind}
use Rattle.file_codec.specs.File.{limit, in_room, writer_of}
use Rattle.file_codec.proofs.Told.{told_refused}
use Rattle.table_file.specs.Files.{refused_line}
use Rattle.table_file.proofs.AnswerCases.{wrote_said, refused_told}
use Rattle.table_file.proofs.put_file.Goals as goal

pub returns-in-Ok : goal.returns-in-Ok
returns-in-Ok c =
    let a = c.args in
    let both = wrote_said a.out.now (in_room (length a.out.now) (writer_of limit a.letter a.payload.now)) _ _ c.write.auto.out c.in-Ok.ensures.told c.in-Ok.ensures.out_left in record { result = both.0; out_left = both.1 }

pub returns-in-Err : goal.returns-in-Err
returns-in-Err c =
    let a = c.args in
    let p = c.put_refusal in
    let o = in_room (length a.out.now) (writer_of limit a.letter a.payload.now) in
    let n = c.number.ensures in
    let both = refused_told a.out.now c.write.new.out p.new.out o _ p.result (told_refused _ o c.in-Err.ensures.told) c.in-Err.ensures.out_left
    (p.ensures.result ∙ ap (λ (z : ℕ). behind c.write.new.out 0 (refused_line z)) n)
    (p.ensures.out_left ∙ ap (λ (z : ℕ). laid_at c.write.new.out 0 (refused_line z)) n) in record { result = both.0; out_left = both.1 }
