-- `refusal_words::put_refused` meets its contract.
use Rattle.text.specs.Digits.{decimal_of}
use Rattle.text.specs.Writing.{bytes}
use Rattle.text.proofs.Laying.{laid_first, laid_more}
use Rattle.refusal_words.proofs.put_refused.Goals as goal

pub returns : goal.returns
returns c =
    let a = c.args in
    let out = a.out.now in
    let p = c.put_text-a in
    let q = c.put_decimal in
    let f0 = laid_first out (bytes "refused ") p.new.out a.at p.result p.ensures.result p.ensures.out_left in
    let f1 = laid_more out (bytes "refused ") (decimal_of a.n) p.new.out q.new.out a.at p.result q.result f0 q.ensures.result q.ensures.out_left in
    record { result = f1.place; out_left = f1.bytes }
