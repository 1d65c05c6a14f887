use mathlib.Core.Path.{ap, ◌∙◌}
use Prim.Native.Nat.{ℕ, ◌*◌, ◌-◌, ◌/◌}
use native.Mathlib.Omega.{arith}
use Rattle.wear.specs.declared.Tally.{Tally}
use Rattle.wear.specs.Columns.{column_from, first_tally}
use Rattle.wear.proofs.Blockwise.{column_is, column_parts}
use Rattle.wear.proofs.column.Goals as goal

pub returns : goal.returns
returns c =
    let a = c.args in
    let m : ℕ = a.n / 2 in
    c.odd.ensures ∙ ap (λ (t : Tally). column_from (a.n - 2 * m) (2 * m) a.k a.s.now t) c.pairs-t.ensures.0
    ∙ column_parts a.n m a.k a.s.now c.first_tally-from.result (omega arith)
    ∙ ap (λ (t : Tally). column_from a.n 0 a.k a.s.now t) (c.first_tally-from.ensures ∙ ap first_tally c.count_at.ensures)
    ∙ column_is a.n a.k a.s.now c.requires.0 c.requires.1.1
