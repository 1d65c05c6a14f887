-- `store_answer::put_refusal` meets its contract.
use mathlib.Core.List.{◌++◌}
use Rattle.text.specs.Writing.{bytes}
use Rattle.text.proofs.Laying.{laid_first, laid_more}
use Rattle.refusal_words.specs.Words.{refused_text}
use Rattle.store_answer.specs.Words.{store_words}
use Rattle.store_answer.proofs.put_refusal.Goals as goal

pub returns : goal.returns
returns c =
    let a = c.args in
    let out = a.out.now in
    let p0 = c.put_refused-a in
    let p1 = c.put_text-b in
    let p2 = c.put_words in
    let f0 = laid_first out (refused_text a.n) p0.new.out 0 p0.result p0.ensures.result p0.ensures.out_left in
    let f1 = laid_more out (refused_text a.n) (bytes ": ") p0.new.out p1.new.out 0 p0.result p1.result f0 p1.ensures.result p1.ensures.out_left in
    let f2 = laid_more out ((refused_text a.n) ++ (bytes ": ")) (store_words a.n) p1.new.out p2.new.out 0 p1.result p2.result f1 p2.ensures.result p2.ensures.out_left in
    record { result = f2.place; out_left = f2.bytes }
