-- `store_told::put_answer` meets its contract.
use mathlib.Core.Path.{sym, ap, ◌∙◌}
use mathlib.Core.List.{List}
use Prim.Native.Nat.{ℕ}
use Rattle.text.specs.Writing.{laid_at, behind}
use Rattle.store_told.specs.Sayings.{answer_line}
use Rattle.store_told.proofs.put_answer.Goals as goal

pub returns-in-Read : goal.returns-in-Read
returns-in-Read c =
    let a = c.args in
    let p = c.put_reading in
    let e = sym (ap answer_line c.in-Read.is) in
    record { result = p.ensures.result ∙ ap (λ (z : List ℕ). behind a.out.now 0 z) e; out_left = p.ensures.out_left ∙ ap (λ (z : List ℕ). laid_at a.out.now 0 z) e }

pub returns-in-Refused : goal.returns-in-Refused
returns-in-Refused c =
    let a = c.args in
    let p = c.say_refusal in
    let e = sym (ap answer_line c.in-Refused.is) in
    record { result = p.ensures.result ∙ ap (λ (z : List ℕ). behind a.out.now 0 z) e; out_left = p.ensures.out_left ∙ ap (λ (z : List ℕ). laid_at a.out.now 0 z) e }
