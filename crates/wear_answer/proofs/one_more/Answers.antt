-- `wear_answer::one_more` meets its contract.
use mathlib.Core.Path.{sym, ◌∙◌}
use Rattle.wear_answer.specs.Answers.{uncounted, wear_said, more_said}
use Rattle.wear_answer.proofs.TraceCases.{same, cut, whole}
use Rattle.wear_answer.proofs.one_more.Goals as goal

pub returns-then-unread : goal.returns-then-unread
returns-then-unread c =
    let a = c.args in
    let s = c.say in
    let e = cut a.counting a.k a.text.now a.ended (sym c.unread.ensures ∙ c.if-unread.true) in
    let both = same a.out.now s.new.out s.result (uncounted a.counting 33 a.k 0) (more_said a.counting a.k a.text.now a.ended) e s.ensures.result s.ensures.out_left s.ensures.out_used in record { result = both.0; out_left = both.1.0; out_used = both.1.1 }

pub returns-in-Ok : goal.returns-in-Ok
returns-in-Ok c =
    let a = c.args in
    let s = c.add_wear in
    let e = whole a.counting a.k a.text.now a.ended _ (sym c.unread.ensures ∙ c.if-unread.false) (sym c.judged.ensures ∙ c.in-Ok.is) in
    let both = same a.out.now s.new.out s.result (wear_said a.counting a.k _) (more_said a.counting a.k a.text.now a.ended) e s.ensures.result s.ensures.out_left s.ensures.out_used in record { result = both.0; out_left = both.1.0; out_used = both.1.1 }

pub returns-in-Err : goal.returns-in-Err
returns-in-Err c =
    let a = c.args in
    let s = c.say-in-Err in
    let e = whole a.counting a.k a.text.now a.ended _ (sym c.unread.ensures ∙ c.if-unread.false) (sym c.judged.ensures ∙ c.in-Err.is) in
    let both = same a.out.now s.new.out s.result (uncounted a.counting 63 a.k _) (more_said a.counting a.k a.text.now a.ended) e s.ensures.result s.ensures.out_left s.ensures.out_used in record { result = both.0; out_left = both.1.0; out_used = both.1.1 }
