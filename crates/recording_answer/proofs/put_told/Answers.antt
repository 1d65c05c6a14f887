-- `recording_answer::put_told` meets its contract.
use Rattle.text.proofs.Laying.{laid_first, laid_more}
use Rattle.text.specs.Writing.{bytes}
use Rattle.recording_answer.specs.Lines.{data_text}
use Rattle.recording_answer.proofs.put_told.Goals as goal

pub returns : goal.returns
returns c =
    let a = c.args in
    let xs = a.out.now in
    let p0 = c.put_text-a in
    let p1 = c.put_data in
    let f0 = laid_first xs (bytes "D ") p0.new.out a.at p0.result p0.ensures.result p0.ensures.out_left in
    let f1 = laid_more xs (bytes "D ") (data_text a.v) p0.new.out p1.new.out a.at p0.result p1.result f0 p1.ensures.result p1.ensures.out_left in
    record { result = f1.place; out_left = f1.bytes }
