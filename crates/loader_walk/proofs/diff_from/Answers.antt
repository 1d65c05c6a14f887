-- `loader::walk::diff_from` meets its contract: what is left to look at is what was to look at.
use mathlib.Core.Path.{◌≡◌, sym, ap, ◌∙◌}
use mathlib.Core.Bool.{true, false}
use Prim.Native.Nat.{ℕ, ◌+◌, ◌-◌}
use native.Mathlib.Omega.{arith}
use borrow.Author.Tests.{eq-eqb, ne_eqb}
use lib.ListN.{get_or}
use lib.Dec.{eqb}
use Rattle.common.proofs.Choice.{if_true, if_false}
use Rattle.units.specs.Units.{units}
use Rattle.loader_walk.specs.Walks.{next_diff, diff_from}
use Rattle.loader_walk.proofs.Walking.{diff_round, diff_over}
use Rattle.loader_walk.proofs.diff_from.Goals as goal

pub loop-i-init : goal.loop-i-init
unfolding diff_from
loop-i-init c =
    let a = c.args in
    (ap (λ (k : ℕ). next_diff (k - a.from) a.from (units a.word a.wanted.now) (units a.word a.scratch.now)) c.units_of-n.ensures, omega arith)

pub returns-then-get_unit : goal.returns-then-get_unit
returns-then-get_unit c =
    let l = c.loop-i in
    let n = c.units_of-n.result in
    let a = c.args in
    let w = units a.word a.wanted.now in
    let s = units a.word a.scratch.now in
    let t : eqb (get_or s l.i 0) (get_or w l.i 0) ≡ false = ne_eqb _ _ (λ q. c.if-get_unit.true (c.get_unit.ensures.0 ∙ q ∙ sym c.get_unit-in-loop-i.ensures.0)) in
    sym (sym l.invariant.0 ∙ diff_round n l.i w s c.loop-i-test.true ∙ if_false (eqb (get_or s l.i 0) (get_or w l.i 0)) (next_diff (n - (l.i + 1)) (l.i + 1) w s) l.i t)

pub loop-i-preserved : goal.loop-i-preserved
loop-i-preserved c =
    let l = c.loop-i in
    let n = c.units_of-n.result in
    let a = c.args in
    let w = units a.word a.wanted.now in
    let s = units a.word a.scratch.now in
    let t : eqb (get_or s l.i 0) (get_or w l.i 0) ≡ true = eq-eqb _ _ (sym c.get_unit.ensures.0 ∙ c.if-get_unit.false ∙ c.get_unit-in-loop-i.ensures.0) in
    (sym (diff_round n l.i w s c.loop-i-test.true ∙ if_true (eqb (get_or s l.i 0) (get_or w l.i 0)) (next_diff (n - (l.i + 1)) (l.i + 1) w s) l.i t) ∙ l.invariant.0, omega arith)

pub returns : goal.returns
returns c =
    let l = c.loop-i in
    let n = c.units_of-n.result in
    let a = c.args in
    (let e : c.max.result ≡ l.i = omega (arith, c.max.ensures, l.invariant.1, c.loop-i-test.false, c.loop-i.auto.i) in e)
    ∙ sym (diff_over n l.i (units a.word a.wanted.now) (units a.word a.scratch.now) c.loop-i-test.false) ∙ l.invariant.0
