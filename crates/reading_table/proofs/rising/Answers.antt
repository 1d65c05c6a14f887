-- `reading_table::rising` meets its contract.
use mathlib.Core.Path.{sym, ◌∙◌}
use Prim.Native.Nat.{◌-◌}
use native.Mathlib.Omega.{arith}
use borrow.Author.Tests.{eq-eqb}
use Rattle.std.proofs.Common.{rules, tests}
use Rattle.std.proofs.lemmas.Iterator.{YieldsList-from_range}
use Rattle.std.proofs.lemmas.Iterator.Search.{all_from_yields_List}
use Rattle.common.proofs.Choice.{unlike}
use Rattle.reading_table.specs.Table.{knots}
use Rattle.reading_table.proofs.Climbing.{climbs, climb_told, out_at, no_knots}
use Rattle.reading_table.proofs.rising.Goals as goal
use Rattle.reading_table.proofs.rising.Goals.{then-in_range_at, else-in_range_at}

pub returns-then-n-eq0 : goal.returns-then-n-eq0
returns-then-n-eq0 c = eq-eqb _ _ c.if-n-eq0.true ∙ no_knots _ c.if-n-eq0.true

pub returns-then-in_range_at-2 : goal.returns-then-in_range_at-2
returns-then-in_range_at-2 c =
    let p = c.args.s.now in
    let z = c.if-n-eq0.false in
    let e = c.if-in_range_at-2.true in
    let ran = all_from_yields_List (climbs p) _ _ _ c.all.ensures.ran (YieldsList-from_range 1 (knots p) (knots p - 1) (cc) (omega arith)) (λ x b q k. search (rules, tests)) in
    elim c.if-in_range_at.branch [
      | then-in_range_at w ↦ climb_told p _ (omega arith) (sym c.in_range_at.ensures ∙ w.if-in_range_at.true) (sym w.in_range_at-then-in_range_at.ensures ∙ sym w.value-is ∙ e) ran
      | else-in_range_at w ↦ absurd (unlike (sym e ∙ w.value-is ∙ w.if-in_range_at.false))
    ]

pub returns-else-in_range_at-2 : goal.returns-else-in_range_at-2
returns-else-in_range_at-2 c =
    let z = c.if-n-eq0.false in
    let e = c.if-in_range_at-2.false in
    e ∙ elim c.if-in_range_at.branch [
      | then-in_range_at w ↦ out_at _ _ (omega arith) (sym w.in_range_at-then-in_range_at.ensures ∙ sym w.value-is ∙ e)
      | else-in_range_at w ↦ out_at _ 0 (omega arith) (sym c.in_range_at.ensures ∙ w.if-in_range_at.false)
    ]
