-- `recording_answer::put_fault` meets its contract.
use Rattle.text.proofs.Laying.{laid_first, laid_more}
use Rattle.text.specs.Writing.{bytes}
use Rattle.recording_answer.specs.Lines.{around, why_text}
use Rattle.recording_answer.proofs.put_fault.Goals as goal

pub returns : goal.returns
returns c =
    let a = c.args in
    let xs = a.out.now in
    let p0 = c.put_around-a in
    let p1 = c.put_why in
    let f0 = laid_first xs (around (bytes "line ") a.n (bytes " is at fault: ")) p0.new.out a.at p0.result p0.ensures.result p0.ensures.out_left in
    let f1 = laid_more xs (around (bytes "line ") a.n (bytes " is at fault: ")) (why_text a.heard a.w) p0.new.out p1.new.out a.at p0.result p1.result f0 p1.ensures.result p1.ensures.out_left in
    record { result = f1.place; out_left = f1.bytes }
