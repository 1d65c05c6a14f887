-- `loader_held_quick::cost_at` meets its contract.
use mathlib.Core.Path.{◌≡◌, ◌∙◌}
use Prim.Native.Nat.{◌-◌}
use native.Mathlib.Omega.{arith}
use lib.Dec.{ltb}
use borrow.Author.Tests.{lt-ltb, le-ltb}
use Rattle.std.specs.Prelude.{if◌then◌else◌}
use Rattle.common.proofs.Choice.{if_true, if_false}
use Rattle.loader_held_claims.specs.HeldMade.{waits_of}
use Rattle.loader_held_quick.specs.HeldQuick.{cost_at}
use Rattle.loader_held_quick.proofs.cost_at.Goals as goal

pub returns-then-last : goal.returns-then-last
unfolding cost_at
returns-then-last c =
    let a = c.args in
    let e : (if a.last then 0 else waits_of a.suspend) ≡ 0 = if_true a.last 0 (waits_of a.suspend) c.if-last.true in
    (omega (arith, e), omega (arith, c.requires))

pub returns-then-suspend-lt2 : goal.returns-then-suspend-lt2
unfolding cost_at
returns-then-suspend-lt2 c =
    let a = c.args in
    let e : (if a.last then 0 else waits_of a.suspend) ≡ 1 =
    if_false a.last 0 (waits_of a.suspend) c.if-last.false ∙ if_true (ltb a.suspend 2) 1 (a.suspend - 1) (lt-ltb a.suspend 2 c.if-suspend-lt2.true) in
    (omega (arith, e), omega (arith, c.requires))

pub returns : goal.returns
unfolding cost_at
returns c =
    let a = c.args in
    let e : (if a.last then 0 else waits_of a.suspend) ≡ a.suspend - 1 =
    if_false a.last 0 (waits_of a.suspend) c.if-last.false ∙ if_false (ltb a.suspend 2) 1 (a.suspend - 1) (le-ltb a.suspend 2 c.if-suspend-lt2.false) in
    (omega (arith, e), omega (arith, c.requires, c.ranges.suspend))
