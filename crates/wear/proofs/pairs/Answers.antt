-- `wear::pairs` meets its contract: what is left of the column leads to what was to be made of it.
use mathlib.Core.Path.{◌≡◌, sym, ap, ◌∙◌}
use mathlib.Core.Bool.{false}
use Prim.Native.Nat.{ℕ, ◌+◌, ◌-◌, ◌*◌}
use native.Mathlib.Omega.{arith}
use lib.ListN.{get_or}
use Rattle.wear.specs.declared.Tally.{Tally}
use Rattle.wear.specs.Reports.{tallied}
use Rattle.wear.specs.Columns.{column_from}
use Rattle.wear.proofs.Blockwise.{two_more, none_more}
use Rattle.wear.proofs.pairs.Goals as goal

pub loop-i-init : goal.loop-i-init
loop-i-init c =
    let a = c.args in
    let z = c.requires.1 in
    let p : 2 * a.m - 2 * 0 ≡ 2 * a.m = omega arith in
    (λ x. column_from (p x) 0 a.k a.s.now a.from, record { total = omega arith; passed = omega arith })

pub tally_in-u-requires : goal.tally_in-u-requires
tally_in-u-requires c =
    let room = c.loop-i.invariant.1 in
    let few = c.requires.0 in
    let h = (c.type_inv.s (14 * c.loop-i.i + c.args.k)).fits in
    (omega arith, omega arith)

pub tally_in-t-requires : goal.tally_in-t-requires
tally_in-t-requires c =
    let room = c.loop-i.invariant.1 in
    let few = c.requires.0 in
    let g = (c.type_inv.s (14 * c.loop-i.i + c.args.k)).fits in
    let h = (c.type_inv.s (14 * c.loop-i.i + c.args.k + 7)).fits in
    let u = c.tally_in-u.ensures.1 in
    (omega arith, omega arith)

pub loop-i-preserved : goal.loop-i-preserved
loop-i-preserved c =
    let a = c.args in
    let l = c.loop-i in
    let room = l.invariant.1 in
    let g = (c.type_inv.s (14 * l.i + a.k)).fits in
    let h = (c.type_inv.s (14 * l.i + a.k + 7)).fits in
    let t = c.tally_in-u.ensures in
    let u = c.tally_in-t.ensures in
    let n : ℕ = 2 * a.m - 2 * (l.i + 1) in (
      ap (λ (y : Tally). column_from n (2 * (l.i + 1)) a.k a.s.now y) (u.0 ∙ ap (λ (y : Tally). tallied false y (get_or a.s.now (14 * l.i + a.k + 7) 0)) t.0)
          ∙ sym (two_more a.m l.i a.k a.s.now l.t c.loop-i-test.true) ∙ l.invariant.0,
      record { total = omega (arith, u.1, t.1); passed = omega (arith, u.1, t.1) },
    )

pub returns : goal.returns
returns c =
    let a = c.args in
    let l = c.loop-i in
    let room = l.invariant.1 in
    (sym (none_more a.m l.i a.k a.s.now l.t c.loop-i-test.false) ∙ l.invariant.0, record { total = omega arith; passed = omega arith })
