-- `wear_answer::finish` meets its contract.
use mathlib.Core.Path.{ap, ◌∙◌}
use Prim.Native.Nat.{zero-le}
use Rattle.wear_print.specs.Tables.{laid_in, count_in}
use Rattle.wear_print.proofs.Laying.{counts}
use Rattle.wear_answer.proofs.TraceCases.{none_used, none_laid, all_counted, not_counted}
use Rattle.wear_answer.proofs.finish.Goals as goal

pub returns-then-counting : goal.returns-then-counting
returns-then-counting c =
    let a = c.args in
    let t = c.table in
    let e = all_counted a.counting c.if-counting.true in
    record { result = t.ensures.result ∙ ap (count_in a.out.now) e; out_left = t.ensures.out_left ∙ ap (laid_in a.out.now) e; out_used = t.ensures.out_used }

pub returns : goal.returns
returns c =
    let a = c.args in
    let out = a.out.now in
    let e = not_counted a.counting c.if-counting.false in
    record { result = none_used out ∙ ap (count_in out) e; out_left = none_laid out ∙ ap (laid_in out) e; out_used = counts 0 out zero-le }
