-- `loader_held_quick::added_searched` meets its contract: what was added, and what is still to be added, is all.
use mathlib.Core.Path.{◌≡◌, refl, ap, ◌∙◌}
use Prim.Native.Nat.{ℕ, ◌+◌, ◌-◌, ◌≤◌}
use native.Mathlib.Nat.{zero-add}
use native.Mathlib.Omega.{arith}
use lib.Dec.{eqb}
use Rattle.loader_held_claims.specs.HeldMade.{added_in}
use Rattle.loader_held_quick.specs.HeldQuick.{cost_at}
use Rattle.loader_held_quick.proofs.Adding.{added_next, added_over, added_all}
use Rattle.loader_held_quick.proofs.added_searched.Goals as goal

pub loop-n-init : goal.loop-n-init
loop-n-init c =
    let a = c.args in
    let e : a.d.erase - 0 ≡ a.d.erase = omega arith in
    let m : a.d.erase ≤ 65535 = omega (arith, c.struct_known-1.given.1.1.0.fits) in
    (omega arith, refl, m, refl, ap (λ (k : ℕ). 0 + added_in a.d a.addresses.now a.polls.now 0 k) e ∙ zero-add (added_in a.d a.addresses.now a.polls.now 0 a.d.erase), omega arith)

pub overflow_add-n : goal.overflow_add-n
overflow_add-n c = omega (arith, c.loop-n-test.true, c.loop-n.invariant.2)

pub overflow_add-e : goal.overflow_add-e
overflow_add-e c = omega (arith, c.loop-n.invariant.2)

pub next_listed-next-requires : goal.next_listed-next-requires
next_listed-next-requires c = omega (arith, c.loop-n-test.true)

pub returns-then-e-next : goal.returns-then-e-next
returns-then-e-next c =
    let l = c.loop-n in
    let a = c.args in
    let i = l.invariant in
    let x = c.next_listed-next in
    let o = added_over a.d a.addresses.now a.polls.now l.n a.d.erase i.0 (λ m p q. x.ensures.none m p (omega (arith, q, c.if-e-next.true))) in
    (omega (arith, i.4, o), omega (arith, i.5, i.0, i.2))

pub cost_at-c-requires : goal.cost_at-c-requires
cost_at-c-requires c = omega (arith, c.loop-n.invariant.3, c.requires)

pub overflow_add-added : goal.overflow_add-added
overflow_add-added c = omega (arith, c.cost_at-c.ensures.1, c.loop-n.invariant.5, c.loop-n.invariant.0, c.loop-n.invariant.2)

pub loop-n-smaller : goal.loop-n-smaller
loop-n-smaller c = let x = c.next_listed-next.ensures in omega (arith, c.loop-n-test.true, x.least, c.if-e-next.false)

pub loop-n-preserved : goal.loop-n-preserved
loop-n-preserved c =
    let l = c.loop-n in
    let a = c.args in
    let i = l.invariant in
    let x = c.next_listed-next in
    let u = c.cost_at-c in
    let le = c.if-e-next.false in
    let n = added_next a.d a.addresses.now a.polls.now l.n x.result a.d.erase (omega (arith, x.ensures.least)) le (x.ensures.met (omega (arith, le))) x.ensures.none in
    let r = u.ensures.0 ∙ ap (λ (k : ℕ). cost_at a.d.suspend k (eqb x.result a.d.erase)) i.3 in
    (le, i.1, i.2, i.3, omega (arith, n, r, i.4), omega (arith, u.ensures.1, i.5, x.ensures.least))

pub returns : goal.returns
returns c =
    let l = c.loop-n in
    let a = c.args in
    let i = l.invariant in
    let o = added_all a.d a.addresses.now a.polls.now l.n a.d.erase c.loop-n-test.false in
    (omega (arith, i.4, o), omega (arith, i.5, i.0, i.2))
