-- `recording_told::put_refused` meets its contract.
use Rattle.text.proofs.Laying.{laid_first, laid_more}
use Rattle.refusal_words.specs.Words.{refused_text}
use Rattle.recording_told.specs.Tellings.{start_words}
use Rattle.recording_told.proofs.put_refused.Goals as goal

pub returns : goal.returns
returns c =
    let a = c.args in
    let xs = a.out.now in
    let p0 = c.put_refused-a in
    let p1 = c.put_words in
    let f0 = laid_first xs (refused_text a.n) p0.new.out 0 p0.result p0.ensures.result p0.ensures.out_left in
    let f1 = laid_more xs (refused_text a.n) (start_words a.n) p0.new.out p1.new.out 0 p0.result p1.result f0 p1.ensures.result p1.ensures.out_left in
    record { result = f1.place; out_left = f1.bytes }
