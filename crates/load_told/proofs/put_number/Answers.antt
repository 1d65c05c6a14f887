-- `load_told::put_number` meets its contract.
use mathlib.Core.Path.{ap, ◌∙◌}
use mathlib.Core.List.{List}
use Prim.Native.Nat.{ℕ, ◌-◌}
use lib.ListN.{take, drop}
use Rattle.text.specs.Writing.{laid_at, behind}
use Rattle.load_told.proofs.put_number.Goals as goal

pub returns : goal.returns
returns c =
    let a = c.args in
    let p = c.put_text in
    let e = ap (λ (z : List ℕ). take (10 - 0) (drop 0 z)) c.decimal.ensures in
    record { result = p.ensures.result ∙ ap (λ (z : List ℕ). behind a.out.now a.at z) e; out_left = p.ensures.out_left ∙ ap (λ (z : List ℕ). laid_at a.out.now a.at z) e }
