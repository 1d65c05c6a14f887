-- `reading_answer::put_degrees` meets its contract.
use Rattle.text.specs.Writing.{bytes}
use Rattle.text.proofs.Laying.{laid_first, laid_more}
use Rattle.reading_print.specs.Texts.{temperature_text}
use Rattle.reading_answer.proofs.put_degrees.Goals as goal

pub returns : goal.returns
returns c =
    let a = c.args in
    let out = a.out.now in
    let p = c.put_temperature-a in
    let q = c.put_text in
    let f0 = laid_first out (temperature_text a.t) p.new.out a.at p.result p.ensures.result p.ensures.out_left in
    let f1 = laid_more out (temperature_text a.t) (bytes "\n") p.new.out q.new.out a.at p.result q.result f0 q.ensures.result q.ensures.out_left in
    record { result = f1.place; out_left = f1.bytes }
