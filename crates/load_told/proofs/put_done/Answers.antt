-- `load_told::put_done` meets its contract.
use mathlib.Core.List.{◌++◌}
use Rattle.text.specs.Digits.{decimal_of}
use Rattle.text.specs.Writing.{bytes}
use Rattle.text.proofs.Laying.{laid_first, laid_more}
use Rattle.load_told.specs.Tellings.{number_text, unit_text}
use Rattle.load_told.proofs.put_done.Goals as goal

pub returns : goal.returns
returns c =
    let a = c.args in
    let out = a.out.now in
    let p0 = c.put_text-a in
    let p1 = c.put_number-b in
    let p2 = c.put_text-c in
    let p3 = c.put_decimal-d in
    let p4 = c.put_unit-e in
    let p5 = c.put_number-f in
    let p6 = c.put_text in
    let f0 = laid_first out (bytes "cycles ") p0.new.out 0 p0.result p0.ensures.result p0.ensures.out_left in
    let f1 = laid_more out (bytes "cycles ") (number_text a.cycles) p0.new.out p1.new.out 0 p0.result p1.result f0 p1.ensures.result p1.ensures.out_left in
    let f2 = laid_more out ((bytes "cycles ") ++ (number_text a.cycles)) (bytes ", erases begun ") p1.new.out p2.new.out 0 p1.result p2.result f1 p2.ensures.result p2.ensures.out_left in
    let f3 = laid_more out (((bytes "cycles ") ++ (number_text a.cycles)) ++ (bytes ", erases begun ")) (decimal_of a.erases) p2.new.out p3.new.out 0 p2.result p3.result f2 p3.ensures.result p3.ensures.out_left in
    let f4 = laid_more out ((((bytes "cycles ") ++ (number_text a.cycles)) ++ (bytes ", erases begun ")) ++ (decimal_of a.erases)) (unit_text a.word) p3.new.out p4.new.out 0 p3.result p4.result f3 p4.ensures.result p4.ensures.out_left in
    let f5 = laid_more out (((((bytes "cycles ") ++ (number_text a.cycles)) ++ (bytes ", erases begun ")) ++ (decimal_of a.erases)) ++ (unit_text a.word)) (number_text a.programs) p4.new.out p5.new.out 0 p4.result p5.result f4 p5.ensures.result p5.ensures.out_left in
    let f6 = laid_more out ((((((bytes "cycles ") ++ (number_text a.cycles)) ++ (bytes ", erases begun ")) ++ (decimal_of a.erases)) ++ (unit_text a.word)) ++ (number_text a.programs)) (bytes "\n") p5.new.out p6.new.out 0 p5.result p6.result f5 p6.ensures.result p6.ensures.out_left in
    record { result = f6.place; out_left = f6.bytes }
