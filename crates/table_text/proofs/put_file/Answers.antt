-- `table_text::put_file` meets its contract.
use mathlib.Core.Path.{◌≡◌, sym, ap, ◌∙◌}
use mathlib.Core.List.{List}
use Prim.Native.Nat.{ℕ}
use lib.ListN.{length}
use Rattle.text.specs.Writing.{laid_at, told_on}
use Rattle.file_codec.specs.File.{limit, in_room, reader_of}
use Rattle.file_codec.proofs.Told.{told_refused, given_back}
use Rattle.table_text.specs.Shown.{Said, refused_said, table_said, file_said}
use Rattle.table_text.proofs.Rounds.{complained}
use Rattle.table_text.proofs.put_file.Goals as goal

pub slice_bounds-put_table-end : goal.slice_bounds-put_table-end
slice_bounds-put_table-end c = let a = c.args in (given_back a.room.now (in_room (length a.room.now) (reader_of limit a.file.now a.letter)) _ _ c.in-Ok.ensures.told c.in-Ok.ensures.out_left).fits

pub returns-in-Err : goal.returns-in-Err
returns-in-Err c =
    let a = c.args in
    let out = a.out.now in
    let o = in_room (length a.room.now) (reader_of limit a.file.now a.letter) in
    let p = c.put_refusal in
    let e : refused_said c.number.result ≡ file_said o = ap refused_said c.number.ensures ∙ sym (ap file_said (told_refused _ o c.in-Err.ensures.told)) in
    let t = complained out p.new.out _ (file_said o) p.result e p.ensures.result p.ensures.out_left in
    record { result = t.0; out_left = t.1; room_left = c.in-Err.ensures.out_left }

pub returns-in-Ok : goal.returns-in-Ok
returns-in-Ok c =
    let a = c.args in
    let out = a.out.now in
    let o = in_room (length a.room.now) (reader_of limit a.file.now a.letter) in
    let q = c.put_table in
    let g = given_back a.room.now o _ _ c.in-Ok.ensures.told c.in-Ok.ensures.out_left in
    let e = ap table_said g.front ∙ sym (ap file_said g.outcome) in
    record { result = q.ensures.result ∙ ap (λ (z : Said). told_on z.stream out z.line) e; out_left = q.ensures.out_left ∙ ap (λ (z : Said). laid_at out 0 z.line) e; room_left = c.in-Ok.ensures.out_left }
