-- `reading_answer::put_reading` meets its contract.
use mathlib.Core.Path.{ap}
use Rattle.text.specs.Writing.{bytes}
use Rattle.reading_answer.specs.Lines.{reading_line}
use Rattle.reading_answer.proofs.AnswerCases.{alone_laid, behind_laid}
use Rattle.reading_answer.proofs.put_reading.Goals as goal

pub returns-in-Temperature : goal.returns-in-Temperature
returns-in-Temperature c =
    let a = c.args in
    let p = c.put_degrees in
    let both = alone_laid a.out.now p.new.out p.result a.r _ c.in-Temperature.is p.ensures.result p.ensures.out_left in record { result = both.0; out_left = both.1 }

pub returns-in-Below : goal.returns-in-Below
returns-in-Below c =
    let a = c.args in
    let p = c.put_text-a in
    let q = c.put_degrees-in-Below in
    let both = behind_laid a.out.now p.new.out q.new.out (bytes "below the table, which begins at ") p.result q.result a.r _ (ap reading_line c.in-Below.is) p.ensures.result p.ensures.out_left q.ensures.result q.ensures.out_left in record { result = both.0; out_left = both.1 }

pub returns-in-Above : goal.returns-in-Above
returns-in-Above c =
    let a = c.args in
    let p = c.put_text-a-in-Above in
    let q = c.put_degrees-in-Above in
    let both = behind_laid a.out.now p.new.out q.new.out (bytes "above the table, which ends at ") p.result q.result a.r _ (ap reading_line c.in-Above.is) p.ensures.result p.ensures.out_left q.ensures.result q.ensures.out_left in record { result = both.0; out_left = both.1 }
