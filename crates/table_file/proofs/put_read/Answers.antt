-- `table_file::put_read` meets its contract.
use mathlib.Core.Path.{sym, ap, ◌∙◌}
use native.Mathlib.Omega.{arith}
use lib.ListN.{length}
use Rattle.text.specs.Writing.{laid_at, told_on}
use Rattle.table_file.specs.Files.{Said}
use Rattle.table_file.proofs.KnotsCounted.{knots_few, line_few}
use Rattle.table_file.proofs.AnswerCases.{line_told, read_good, part_most}
use Rattle.table_file.proofs.put_read.Goals as goal

pub overflow_mul-n : goal.overflow_mul-n
overflow_mul-n c = let h = knots_few c.args.text.now c.args.payload.now c.requires _ (sym c.read_table.ensures.result ∙ c.in-Ok.is) in omega (arith, h)

pub put_table-requires : goal.put_table-requires
put_table-requires c = part_most c.least-size.result _ c.read_table.new.out c.least-size.ensures (knots_few c.args.text.now c.args.payload.now c.requires _ (sym c.read_table.ensures.result ∙ c.in-Ok.is))

pub put_wrong_line-used-requires : goal.put_wrong_line-used-requires
put_wrong_line-used-requires c = line_few c.args.text.now c.args.payload.now c.requires _ (sym c.read_table.ensures.result ∙ c.in-Err.is)

pub returns-in-Ok : goal.returns-in-Ok
returns-in-Ok c =
    let a = c.args in
    let out = a.out.now in
    let r = c.read_table in
    let q = c.put_table in
    let e = read_good a.letter (length out) _ c.least-size.result a.text.now a.payload.now r.new.out c.least-size.ensures (sym r.ensures.result ∙ c.in-Ok.is) r.ensures.out_left in
    record { result = q.ensures.result ∙ ap (λ (z : Said). told_on z.stream out z.line) e; out_left = q.ensures.out_left ∙ ap (λ (z : Said). laid_at out 0 z.line) e; payload_left = r.ensures.out_left }

pub returns-in-Err : goal.returns-in-Err
returns-in-Err c =
    let a = c.args in
    let out = a.out.now in
    let r = c.read_table in
    let p = c.put_wrong_line-used in
    let t = line_told a.letter (length out) p.result _ a.text.now a.payload.now out p.new.out (sym r.ensures.result ∙ c.in-Err.is) p.ensures.result p.ensures.out_left in
    record { result = t.0; out_left = t.1; payload_left = r.ensures.out_left }
