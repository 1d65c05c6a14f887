-- `store_answer::put_head` meets its contract.
use mathlib.Core.List.{[], ◌∷◌, ◌++◌}
use Rattle.text.specs.Digits.{decimal_of}
use Rattle.text.specs.Writing.{bytes}
use Rattle.text.proofs.Laying.{laid_first, laid_more}
use Rattle.store_answer.proofs.put_head.Goals as goal

pub returns : goal.returns
returns c =
    let a = c.args in
    let out = a.out.now in
    let p0 = c.put_text-a in
    let p1 = c.put_text-b in
    let p2 = c.put_decimal-c in
    let p3 = c.put_text-d in
    let p4 = c.put_decimal-e in
    let p5 = c.put_text in
    let f0 = laid_first out (a.letter ∷ []) p0.new.out a.at p0.result p0.ensures.result p0.ensures.out_left in
    let f1 = laid_more out (a.letter ∷ []) (bytes ": from place ") p0.new.out p1.new.out a.at p0.result p1.result f0 p1.ensures.result p1.ensures.out_left in
    let f2 = laid_more out ((a.letter ∷ []) ++ (bytes ": from place ")) (decimal_of a.p) p1.new.out p2.new.out a.at p1.result p2.result f1 p2.ensures.result p2.ensures.out_left in
    let f3 = laid_more out (((a.letter ∷ []) ++ (bytes ": from place ")) ++ (decimal_of a.p)) (bytes " on, places ") p2.new.out p3.new.out a.at p2.result p3.result f2 p3.ensures.result p3.ensures.out_left in
    let f4 = laid_more out ((((a.letter ∷ []) ++ (bytes ": from place ")) ++ (decimal_of a.p)) ++ (bytes " on, places ")) (decimal_of a.n) p3.new.out p4.new.out a.at p3.result p4.result f3 p4.ensures.result p4.ensures.out_left in
    let f5 = laid_more out (((((a.letter ∷ []) ++ (bytes ": from place ")) ++ (decimal_of a.p)) ++ (bytes " on, places ")) ++ (decimal_of a.n)) (bytes ", ") p4.new.out p5.new.out a.at p4.result p5.result f4 p5.ensures.result p5.ensures.out_left in
    record { result = f5.place; out_left = f5.bytes }
