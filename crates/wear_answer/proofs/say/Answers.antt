-- `wear_answer::say` meets its contract.
use mathlib.Core.Path.{refl}
use Rattle.wear_answer.proofs.TraceCases.{spoiled}
use Rattle.wear_answer.proofs.say.Goals as goal

pub returns : goal.returns
returns c =
    let a = c.args in
    let l = c.line-used in
    record { result = spoiled a.out.now a.counting a.sign a.k a.n refl l.ensures.result; out_left = l.ensures.out_left; out_used = l.ensures.out_used }
