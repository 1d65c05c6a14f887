-- `wear_answer::add_wear` meets its contract.
use mathlib.Core.Path.{ap, ◌∙◌}
use borrow.Author.Tests.{eq-eqb, ne_eqb}
use Rattle.wear_answer.specs.Answers.{uncounted, added_said, wear_said}
use Rattle.wear_answer.proofs.TraceCases.{same, silent, taken, refused}
use Rattle.wear_answer.proofs.add_wear.Goals as goal

pub returns-then-n-ne0 : goal.returns-then-n-ne0
returns-then-n-ne0 c =
    let a = c.args in
    let r = c.add_to-r in
    let s = c.say in
    let e = refused a.counting a.k r.result (ne_eqb _ _ c.if-n-ne0.true) ∙ ap (added_said a.counting a.k) r.ensures in
    let both = same a.out.now s.new.out s.result (uncounted a.counting 88 a.k r.result.number) (wear_said a.counting a.k a.w) e s.ensures.result s.ensures.out_left s.ensures.out_used in record { result = both.0; out_left = both.1.0; out_used = both.1.1 }

pub returns : goal.returns
returns c =
    let a = c.args in
    let r = c.add_to-r in
    let e = taken a.counting a.k r.result (eq-eqb _ _ c.if-n-ne0.false) ∙ ap (added_said a.counting a.k) r.ensures in
    let both = silent a.out.now (record { report = r.result.report; good = a.counting.good }) (wear_said a.counting a.k a.w) e in record { result = both.0; out_left = both.1.0; out_used = both.1.1 }
