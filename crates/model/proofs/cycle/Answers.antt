use mathlib.Core.Path.{◌≡◌, ap₂, ◌∙◌}
use Rattle.units.specs.Units.{units, units_in, lent, lent_in}
use Rattle.model_judge.specs.Judging.{judge_of}
use Prim.Native.Nat.{ℕ}
use lib.ListN.{length}
use Rattle.model.proofs.Borders.{stopped_answer, stopped_bytes, passed_answer, passed_bytes}
use Rattle.model.proofs.Told.{answer_too}
use Rattle.model.proofs.cycle.Goals as goal

pub returns-then-n-ne0 : goal.returns-then-n-ne0
returns-then-n-ne0 c =
    let a = c.args in
    let xs = a.array.now in
    let rs = a.residue.now in
    let judge = c.judge-n in
    let j : judge.result ≡ judge_of a.d a.s a.c (lent_in a.d.part.word (length xs)) (units_in a.d.part.word (length rs)) =
    judge.ensures ∙ ap₂ (λ (m n : ℕ). judge_of a.d a.s a.c m n) c.lent_in.ensures c.units_in.ensures in
    let both = answer_too a.d a.s a.c (lent a.d.part.word xs) (units a.d.part.word rs)
    (stopped_answer a.d a.s a.c xs rs judge.result j c.if-n-ne0.true _ c.refused.ensures)
    (stopped_bytes a.d a.s a.c xs rs judge.result j c.if-n-ne0.true) in record { result = both.0; told = both.1.0; array_left = both.1.1 }

pub returns : goal.returns
returns c =
    let a = c.args in
    let xs = a.array.now in
    let rs = a.residue.now in
    let judge = c.judge-n in
    let after = c.after_judging in
    let j : judge.result ≡ judge_of a.d a.s a.c (lent_in a.d.part.word (length xs)) (units_in a.d.part.word (length rs)) =
    judge.ensures ∙ ap₂ (λ (m n : ℕ). judge_of a.d a.s a.c m n) c.lent_in.ensures c.units_in.ensures in
    let both = answer_too a.d a.s a.c (lent a.d.part.word xs) (units a.d.part.word rs)
    (passed_answer a.d a.s a.c xs rs judge.result j c.if-n-ne0.false _ after.ensures.result)
    (passed_bytes a.d a.s a.c xs rs judge.result j c.if-n-ne0.false _ (λ i. (c.slice_known-1.given i).fits) (λ i. (c.slice_known-2-1.given i).fits) after.ensures.array_left after.ensures.array_spare after.auto.array) in record { result = both.0; told = both.1.0; array_left = both.1.1 }
