-- `store_told::change_said` meets its contract.
use mathlib.Core.Path.{ap, ◌∙◌}
use lib.Dec.{eqb}
use Prim.Native.Nat.{ℕ}
use Rattle.store_told.proofs.change_said.Goals as goal

pub returns : goal.returns
returns c =
    let p = c.say_change in
    let R = c.args.ran in
    record { result = c.as_said.ensures ∙ ap (λ (u : ℕ). record { used = u; stream = 2; filled = 0; changed = eqb R.end 0 }) p.ensures.result; out_left = p.ensures.out_left }
