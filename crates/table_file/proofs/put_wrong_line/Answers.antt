-- `table_file::put_wrong_line` meets its contract.
use mathlib.Core.List.{◌++◌}
use Rattle.text.specs.Digits.{decimal_of}
use Rattle.text.specs.Writing.{bytes}
use Rattle.text.proofs.Laying.{laid_first, laid_more}
use Rattle.table_file.proofs.put_wrong_line.Goals as goal

pub returns : goal.returns
returns c =
    let a = c.args in
    let out = a.out.now in
    let p = c.put_text-a in
    let q = c.put_decimal-b in
    let r = c.put_text in
    let f0 = laid_first out (bytes "no knot, or one too many, in line ") p.new.out 0 p.result p.ensures.result p.ensures.out_left in
    let f1 = laid_more out (bytes "no knot, or one too many, in line ") (decimal_of a.n) p.new.out q.new.out 0 p.result q.result f0 q.ensures.result q.ensures.out_left in
    let f2 = laid_more out (bytes "no knot, or one too many, in line " ++ decimal_of a.n) (bytes "\n") q.new.out r.new.out 0 q.result r.result f1 r.ensures.result r.ensures.out_left in
    record { result = f2.place; out_left = f2.bytes }
