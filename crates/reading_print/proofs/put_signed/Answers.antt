-- `reading_print::put_signed` meets its contract.
use Rattle.reading_print.proofs.Laying.{minus_laid, plain_laid}
use Rattle.reading_print.proofs.put_signed.Goals as goal

pub returns-then-negative : goal.returns-then-negative
returns-then-negative c =
    let a = c.args in
    let p = c.put_text-next in
    let q = c.put_decimal in
    let both = minus_laid a.out.now p.new.out q.new.out a.at p.result q.result a.n a.negative c.if-negative.true p.ensures.result p.ensures.out_left q.ensures.result q.ensures.out_left in record { result = both.0; out_left = both.1 }

pub returns : goal.returns
returns c =
    let a = c.args in
    let q = c.put_decimal-2 in
    let both = plain_laid a.out.now q.new.out a.at q.result a.n a.negative c.if-negative.false q.ensures.result q.ensures.out_left in record { result = both.0; out_left = both.1 }
