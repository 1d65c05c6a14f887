-- `table_file::put_table` meets its contract.
use mathlib.Core.Path.{sym, ap, ◌∙◌}
use lib.ListN.{length}
use borrow.Author.Tests.{ne_eqb}
use Rattle.text.specs.Writing.{laid_at, told_on}
use Rattle.table_file.specs.Files.{Said, table_line, table_said}
use Rattle.table_file.proofs.AnswerCases.{complained, good_table, bad_table}
use Rattle.table_file.proofs.put_table.Goals as goal

pub returns-then-n-eq0 : goal.returns-then-n-eq0
returns-then-n-eq0 c =
    let a = c.args in
    let out = a.out.now in
    let p = c.put_file in
    let e = good_table a.letter (length out) a.payload.now (sym c.judge_table-n.ensures ∙ c.if-n-eq0.true) in
    record { result = p.ensures.result ∙ ap (λ (z : Said). told_on z.stream out z.line) e; out_left = p.ensures.out_left ∙ ap (λ (z : Said). laid_at out 0 z.line) e }

pub returns : goal.returns
returns c =
    let a = c.args in
    let out = a.out.now in
    let p = c.put_table_line-used in
    let j = c.judge_table-n in
    let both = complained out p.new.out (table_line j.result a.payload.now) (table_said a.letter (length out) a.payload.now) p.result (bad_table a.letter (length out) a.payload.now j.result j.ensures (ne_eqb _ _ c.if-n-eq0.false)) p.ensures.result p.ensures.out_left in record { result = both.0; out_left = both.1 }
