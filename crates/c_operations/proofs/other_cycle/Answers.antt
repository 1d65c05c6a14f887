-- `c_operations::other_cycle` meets its contract.
use mathlib.Core.Path.{sym, ◌∙◌}
use native.Mathlib.Omega.{arith}
use borrow.Author.Tests.{ne_eqb}
use Rattle.c_operations.proofs.Supplying.{supplies_fair}
use Rattle.c_operations.proofs.other_cycle.Goals as goal

pub write_cycle-requires : goal.write_cycle-requires
write_cycle-requires c = let i = c.if-state-fair_units.true in
    let u = c.fair_units.ensures (omega (arith, i)) in
    (supplies_fair c.args.device c.args.bus _ u.0 (sym c.is_up.ensures ∙ c.if-is_up.true), omega (arith, i, u.1), c.if-bus-eq1.true)

pub poll_cycle-requires : goal.poll_cycle-requires
poll_cycle-requires c = let i = c.if-state-fair_units.true in
    let u = c.fair_units.ensures (omega (arith, i)) in
    (supplies_fair c.args.device c.args.bus _ u.0 (sym c.is_up.ensures ∙ c.if-is_up.true), omega (arith, i, u.1), ne_eqb c.args.bus.kind 1 c.if-bus-eq1.false)

pub cut_cycle-requires : goal.cut_cycle-requires
cut_cycle-requires c = let i = c.if-state-fair_units.true in
    let u = c.fair_units.ensures (omega (arith, i)) in
    (u.0, omega (arith, i, u.1), sym c.is_up.ensures ∙ c.if-is_up.false)
