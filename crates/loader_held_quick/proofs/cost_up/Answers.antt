-- `loader_held_quick::cost_up` meets its contract.
use mathlib.Core.Path.{sym, ◌∙◌}
use native.Mathlib.Omega.{arith}
use lib.Dec.{eqb, ltb}
use borrow.Author.Tests.{lt-ltb, le-ltb}
use Rattle.common.proofs.Choice.{if_true, if_false}
use Rattle.loader_held_quick.specs.HeldQuick.{cost_at}
use Rattle.loader_held_quick.proofs.cost_up.Goals as goal

pub returns-then-e-p : goal.returns-then-e-p
returns-then-e-p c =
    let a = c.args in
    (sym (if_true (ltb a.e a.p) 0 (cost_at a.d.suspend a.k (eqb a.p a.e)) (lt-ltb a.e a.p c.if-e-p.true)), omega arith)

pub returns : goal.returns
returns c =
    let a = c.args in
    let r = c.cost_at.ensures in
    (r.0 ∙ sym (if_false (ltb a.e a.p) 0 (cost_at a.d.suspend a.k (eqb a.p a.e)) (le-ltb a.e a.p c.if-e-p.false)), r.1)
