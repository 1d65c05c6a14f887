-- `loader_held_quick::added_rising` meets its contract: what was added is what the polls add that were looked at.
use mathlib.Core.Path.{◌≡◌, refl, sym, ap, ◌∙◌}
use mathlib.Core.List.{List, [], ◌∷◌, ◌++◌}
use Prim.Native.Nat.{ℕ, ◌+◌, ◌≤◌, ◌<◌}
use native.Mathlib.Omega.{arith}
use lib.ListN.{length, get_or, take}
use lib.Seq.{take-length}
use lib.Dec.{eqb, ltb}
use Rattle.std.specs.Prelude.{if◌then◌else◌}
use Rattle.loader_held.specs.Holds.{listed}
use Rattle.loader_held_claims.specs.HeldMade.{added_in}
use Rattle.loader_held_quick.specs.HeldQuick.{cost_at}
use Rattle.loader_held_quick.proofs.Rising.{adds_none, capped, rising_adds, rising_above, take_next, none_listed}
use Rattle.loader_held_quick.proofs.added_rising.Goals as goal

pub loop-p-init : goal.loop-p-init
loop-p-init c =
    let a = c.args in
    let m : a.d.erase ≤ 65535 = omega (arith, c.struct_known-1.given.1.1.0.fits) in
    (refl, m, refl, sym (adds_none a.d a.addresses.now 0 a.d.erase), λ m h. none_listed m, omega arith, omega arith)

pub returns-then-p-n : goal.returns-then-p-n
returns-then-p-n c = λ h. absurd (let y : ⊥ = omega arith in y)

pub cost_up-c-requires : goal.cost_up-c-requires
cost_up-c-requires c = omega (arith, c.loop-p.invariant.2, c.requires)

pub overflow_add-added : goal.overflow_add-added
overflow_add-added c = omega (arith, c.cost_up-c.ensures.1, c.loop-p.invariant.6, c.loop-p.invariant.1)

pub loop-p-preserved : goal.loop-p-preserved
loop-p-preserved c =
    let l = c.loop-p in
    let a = c.args in
    let i = l.invariant in
    let ps = a.polls.now in
    let bs = a.addresses.now in
    let p = get_or ps l.p-index 0 in
    let t : l.p-index < length ps = c.loop-p-test.true in
    let h : l.n < p = c.if-p-n.false in
    let u = c.cost_up-c in
    let q : take (l.p-index + 1) ps ≡ take l.p-index ps ++ (p ∷ []) = take_next ps l.p-index t in
    let r : u.result ≡ (if ltb a.d.erase p then 0 else cost_at a.d.suspend (length bs) (eqb p a.d.erase)) =
    u.ensures.0 ∙ ap (λ (k : ℕ). if ltb a.d.erase p then 0 else cost_at a.d.suspend k (eqb p a.d.erase)) i.2 in (
      i.0,
      i.1,
      i.2,
      (λ x. i.3 x + r x) ∙ sym (rising_adds a.d bs (take l.p-index ps) l.n p a.d.erase i.4 h) ∙ ap (λ (qs : List ℕ). added_in a.d bs qs 0 a.d.erase) (sym q),
      (λ m g. ap (λ (qs : List ℕ). listed m qs) q ∙ rising_above (take l.p-index ps) l.n p i.4 h m g),
      omega (arith, h, u.ensures.1, i.5),
      capped l.added u.result l.n p a.d.erase (cost_at a.d.suspend (length bs) (eqb p a.d.erase)) r u.ensures.1 h i.5 i.6,
    )

pub returns : goal.returns
returns c =
    let l = c.loop-p in
    let a = c.args in
    let i = l.invariant in
    let ps = a.polls.now in
    let e : l.p-index ≡ length ps = omega (arith, c.loop-p-test.false) in
    λ h. i.3 ∙ ap (λ (qs : List ℕ). added_in a.d a.addresses.now qs 0 a.d.erase) (ap (λ (n : ℕ). take n ps) e ∙ take-length ps)
