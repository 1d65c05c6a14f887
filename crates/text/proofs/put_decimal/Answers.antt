-- `text::put_decimal` meets its contract: the last of ten digits.
use mathlib.Core.Path.{sym, ap, ◌∙◌, subst}
use mathlib.Core.List.{List}
use Prim.Native.Nat.{ℕ, ◌-◌, ◌≤◌}
use native.Mathlib.Omega.{arith}
use lib.ListN.{take, drop}
use Rattle.text.specs.Writing.{laid_at, behind}
use Rattle.text.proofs.Spelling.{width_some, decimal_last}
use Rattle.text.proofs.put_decimal.Goals as goal

pub overflow_sub-from : goal.overflow_sub-from
overflow_sub-from c = let h = subst (λ (w : ℕ). w ≤ 10) (sym c.width-from.ensures) (width_some c.args.n).1 in omega (arith, h)

pub returns : goal.returns
returns c =
    let a = c.args in
    let p = c.put_text in
    let d = c.decimal in
    let w = c.width-from in
    let from = 10 - w.result in
    let e = ap (λ (z : List ℕ). take (10 - from) (drop from z)) d.ensures ∙ decimal_last a.n from (ap (λ (z : ℕ). 10 - z) w.ensures) in
    record { result = p.ensures.result ∙ ap (λ (z : List ℕ). behind a.out.now a.at z) e; out_left = p.ensures.out_left ∙ ap (λ (z : List ℕ). laid_at a.out.now a.at z) e }
