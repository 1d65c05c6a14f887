-- The one split of a cycle: refused by a number, or accepted with nothing against it.
use mathlib.Core.Path.{◌≡◌, refl, sym, subst}
use mathlib.Core.Bool.{Bool, true, false}
use Prim.Native.Nat.{ℕ}
use lib.Dec.{eqb}
use borrow.Author.Tests.{eqb-true, eqb-false}
use Rattle.std.specs.Prelude.{if◌then◌else◌}
use Rattle.device.specs.declared.Device.{Device}
use Rattle.model_types.specs.declared.State.{State}
use Rattle.model_types.specs.declared.Cycle.{Cycle}
use Rattle.model_types.specs.declared.Settled.{Settled}
use Rattle.model_types.specs.declared.Decision.{Decision}
use Rattle.model_types.specs.declared.Kind.{Kind}
use Rattle.model_types.specs.declared.Kind.TheVariants.{Read, Write, Idle}
use Rattle.model_types.specs.declared.Reply.TheVariants.{Quiet}
use Rattle.model_levels.specs.Levels.{rp_low}
use Rattle.model_operation.specs.Settling.{settle_of}
use Rattle.model_rules.specs.Cycles.{number_of, decide_of, accept_of, respond_of, refused_by, decided_as}
use Rattle.model_rules.proofs.Cases.{refused, accepted}
use Rattle.model_rules.proofs.Facts.{Fine, fine}

-- whatever holds of a refusal and of an accepted cycle holds of the cycle
pub outcome : (d : Device) (s : State) (c : Cycle) (n r : ℕ) (P : Decision → Type 0)
    → ((m : ℕ) → (m ≡ 0 → ⊥) → number_of d s c n r ≡ m → P (refused_by m s))
    → (number_of d s c n r ≡ 0 → Fine d s c n r → P (accept_of d c (settle_of d.part s c.pins)))
    → P (decide_of d s c n r)
outcome d s c n r P f g = go (eqb (number_of d s c n r) 0) refl
  where
    go : (b : Bool) → eqb (number_of d s c n r) 0 ≡ b → P (decide_of d s c n r)
    go true e = let z = eqb-true (number_of d s c n r) 0 e in subst P (sym (accepted d s c n r z)) (g z (fine d s c n r z))
    go false e = let z = eqb-false (number_of d s c n r) 0 e in subst P (sym (refused d s c n r (number_of d s c n r) refl z)) (f (number_of d s c n r) z refl)

-- an accepted cycle ends after step 1 with RP# low, and goes on to its read, write or idle with RP# up
pub accept_cases : (d : Device) (c : Cycle) (t : Settled) (P : Decision → Type 0)
    → (rp_low c.pins ≡ true → P (decided_as Quiet t.state t.effect))
    → (rp_low c.pins ≡ false → (k : Kind) → c.kind ≡ k → P (respond_of k d c t))
    → P (accept_of d c t)
unfolding accept_of
accept_cases d c t P f g = go (rp_low c.pins) refl
  where
    go : (b : Bool) → rp_low c.pins ≡ b → P (if rp_low c.pins then decided_as Quiet t.state t.effect else respond_of c.kind d c t)
    go true e = rw e (f e)
    go false e = rw e (g e c.kind refl)

-- the effect of an accepted cycle is that of its first three steps
pub accept_effect : (d : Device) (c : Cycle) (t : Settled) → (accept_of d c t).effect ≡ t.effect
accept_effect d c t = accept_cases d c t (λ (x : Decision). x.effect ≡ t.effect) (λ e. refl) (λ e k q. kinds k)
  where
    kinds : (k : Kind) → (respond_of k d c t).effect ≡ t.effect
    kinds Read = refl
    kinds Write = refl
    kinds Idle = refl
