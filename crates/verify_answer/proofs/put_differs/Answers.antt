-- `verify_answer::put_differs` meets its contract.
use mathlib.Core.List.{◌++◌}
use Rattle.text.specs.Writing.{bytes}
use Rattle.text.proofs.Laying.{laid_first, laid_more}
use Rattle.verify_answer.specs.Answers.{address_text}
use Rattle.verify_answer.proofs.put_differs.Goals as goal

pub returns : goal.returns
returns c =
    let a = c.args in
    let out = a.out.now in
    let p = c.put_text-a in
    let q = c.put_address-b in
    let r = c.put_text in
    let f0 = laid_first out (bytes "differs at ") p.new.out 0 p.result p.ensures.result p.ensures.out_left in
    let f1 = laid_more out (bytes "differs at ") (address_text a.address) p.new.out q.new.out 0 p.result q.result f0 q.ensures.result q.ensures.out_left in
    let f2 = laid_more out ((bytes "differs at ") ++ (address_text a.address)) (bytes "\n") q.new.out r.new.out 0 q.result r.result f1 r.ensures.result r.ensures.out_left in
    record { result = f2.place; out_left = f2.bytes }
