-- `c_operations::fair_units` meets its contract.
use mathlib.Core.Path.{sym, ◌∙◌}
use native.Mathlib.Omega.{arith}
use Rattle.c_operations.proofs.Supplying.{fairs_at}
use Rattle.c_operations.proofs.fair_units.Goals as goal

pub returns-then-not-is_timed : goal.returns-then-not-is_timed
returns-then-not-is_timed c = λ l. absurd (omega (arith, l))

pub returns-then-b-lt3 : goal.returns-then-b-lt3
returns-then-b-lt3 c = λ l.
    let a = c.args in
    let k = c.if-b-lt3.true in
    fairs_at a.d a.b a.len (sym c.is_timed.ensures ∙ c.if-not-is_timed.false) (sym c.is_fair_level.ensures ∙ c.if-is_fair_level.true) _ c.units_of-units.ensures c.if-b-units.true (omega (arith, k))

pub returns-else-b-lt3 : goal.returns-else-b-lt3
returns-else-b-lt3 c = λ l. absurd (omega (arith, l))

pub returns-else-b-units : goal.returns-else-b-units
returns-else-b-units c = λ l. absurd (omega (arith, l))

pub returns-else-is_fair_level : goal.returns-else-is_fair_level
returns-else-is_fair_level c = λ l. absurd (omega (arith, l))
