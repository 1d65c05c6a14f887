-- `table_text::show` meets its contract.
use mathlib.Core.Path.{ap, ◌∙◌}
use Prim.Native.Nat.{ℕ}
use lib.ListN.{length}
use borrow.Author.Tests.{eq-eqb, ne_eqb}
use Rattle.text.specs.declared.Told.{Told}
use Rattle.text.specs.Writing.{laid_at, told_on}
use Rattle.text.proofs.Laying.{front_used}
use Rattle.file_codec.specs.File.{limit, in_room, left_in, reader_of}
use Rattle.table_text.specs.Shown.{file_said, usage, Shown}
use Rattle.table_text.proofs.Rounds.{shown_good, shown_wrong}
use Rattle.table_text.proofs.show.Goals as goal

pub returns-then-letter-eq1 : goal.returns-then-letter-eq1
returns-then-letter-eq1 c =
    let a = c.args in
    let out = a.out.now in
    let R = a.room.now in
    let F = a.file.now in
    let q = c.put_file in
    let n = c.nth in
    let e = shown_good F a.letter.now R (eq-eqb _ _ c.if-letter-eq1.true) in record { result = q.ensures.result ∙ ap (λ (z : ℕ). told_on (file_said (in_room (length R) (reader_of limit F z))).stream out (file_said (in_room (length R) (reader_of limit F z))).line) n.ensures ∙ ap (λ (z : Shown). told_on z.said.stream out z.said.line) e; out_left = q.ensures.out_left ∙ ap (λ (z : ℕ). laid_at out 0 (file_said (in_room (length R) (reader_of limit F z))).line) n.ensures ∙ ap (λ (z : Shown). laid_at out 0 z.said.line) e; room_left = q.ensures.room_left ∙ ap (λ (z : ℕ). left_in R (in_room (length R) (reader_of limit F z))) n.ensures ∙ ap (λ (z : Shown). z.room) e; out_used = front_used out (file_said (in_room (length R) (reader_of limit F n.result))).line _ q.result.used (ap (λ (z : Told). z.used) q.ensures.result) q.ensures.out_left }

pub returns : goal.returns
returns c =
    let a = c.args in
    let out = a.out.now in
    let p = c.put_usage-used in
    let e = shown_wrong a.file.now a.letter.now a.room.now (ne_eqb _ _ c.if-letter-eq1.false) in record { result = ap (λ (z : ℕ). record { used = z; stream = 2 }) p.ensures.result ∙ ap (λ (z : Shown). told_on z.said.stream out z.said.line) e; out_left = p.ensures.out_left ∙ ap (λ (z : Shown). laid_at out 0 z.said.line) e; room_left = ap (λ (z : Shown). z.room) e; out_used = front_used out usage p.new.out p.result p.ensures.result p.ensures.out_left }
