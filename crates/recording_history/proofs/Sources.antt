-- Where what changes a byte was begun: an earlier cycle of the list, or before the list.
use mathlib.Core.Path.{◌≡◌, refl, sym, subst, ◌∙◌}
use mathlib.Core.Bool.{Bool, true, false}
use mathlib.Core.List.{List, [], ◌∷◌}
use mathlib.Core.Logic.{◌⊎◌, inl, inr, ⊎_elim}
use Prim.Native.Nat.{ℕ, zero, suc, ◌<◌}
use native.Mathlib.Omega.{arith}
use lib.Dec.{eqb}
use borrow.Author.Tests.{eqb-true, eqb-false}
use Rattle.device.specs.declared.Device.{Device}
use Rattle.model_types.specs.declared.Effect.{Effect}
use Rattle.model.specs.Begun.{pending_of}
use Rattle.model_history.specs.History.{Bus, World}
use Rattle.model_touch.specs.Touch.{by_rules, before, At, begun_on, is_on, byte_in, Differs}
use Rattle.model_touch.proofs.Steps.{Whole, stays_whole, byte_kept}
use Rattle.model_touch.proofs.Origins.{Origin, on_operation, pending_origin, ended_origin}
use Rattle.recording_history.specs.Timed.{TimedCycle, device_at, after_timed, before_timed, TimedAt, effect_in, operation_at}

module _ (d : Device) (x : ℕ) where
  abbrev is_hit : Effect → Bool
  is_hit e = is_on d.part e x

  abbrev Pending : World → Type 0
  Pending v = is_hit (pending_of d.part v.state) ≡ true

  -- a cycle in front of place i that begins an operation on the byte
  pub record Source (v : World) (ts : List TimedCycle) (i : ℕ) : Type 0 where
    pub index : ℕ
    pub sooner : index < i
    pub timed : TimedCycle
    pub there : TimedAt ts index timed
    pub hit : is_hit (operation_at d (before_timed d v ts index) timed) ≡ true

  -- one cycle: what is pending after it was begun by it or was pending ..
  only_first : (v : World) (t : TimedCycle) (k : ℕ) → k < 1 → (b : Bus) → At (t.bus ∷ []) k b
      → is_hit (begun_on (device_at d t) (before by_rules (device_at d t) v (t.bus ∷ []) k) b) ≡ true → is_hit (operation_at d v t) ≡ true
  only_first v t zero l b e h = subst (λ (c : Bus). is_hit (begun_on (device_at d t) v c) ≡ true) (sym e) h
  only_first v t (suc k) l b e h = absurd e

  pending_from : (v : World) (t : TimedCycle) → Pending (after_timed d v t) → (is_hit (operation_at d v t) ≡ true) ⊎ Pending v
  pending_from v t h =
      ⊎_elim (λ (p : Pending v). inr p)
      (λ (o : Origin is_hit refl (device_at d t) v (t.bus ∷ []) 1). inl (only_first v t o.index o.sooner o.bus o.there o.hit))
      (pending_origin is_hit refl (device_at d t) (t.bus ∷ []) 1 v h)

  -- .. and what it ends or cuts was pending
  ended_pending : (v : World) (t : TimedCycle) → is_hit (effect_in d v t) ≡ true → Pending v
  ended_pending v t h =
      ⊎_elim (λ (p : Pending v). p) (λ (o : Origin is_hit refl (device_at d t) v [] 0). absurd o.there)
      (ended_origin is_hit refl (device_at d t) [] 0 v t.bus (on_operation d.part (effect_in d v t) x ∙ h))

  -- one cycle more in front
  shifted : (v : World) (t : TimedCycle) (ts : List TimedCycle) (i : ℕ) → Source (after_timed d v t) ts i → Source v (t ∷ ts) (suc i)
  shifted v t ts i o = record { index = suc o.index; sooner = (let h = o.sooner in omega arith); timed = o.timed; there = o.there; hit = o.hit }

  first : (v : World) (t : TimedCycle) (ts : List TimedCycle) (i : ℕ) → is_hit (operation_at d v t) ≡ true → Source v (t ∷ ts) (suc i)
  first v t ts i h = record { index = 0; sooner = omega arith; timed = t; there = refl; hit = h }

  on : (v : World) (t : TimedCycle) (ts : List TimedCycle) (i : ℕ) → (Pending (after_timed d v t)) ⊎ Source (after_timed d v t) ts i → (Pending v) ⊎ Source v (t ∷ ts) (suc i)
  on v t ts i =
      ⊎_elim (λ (h : Pending (after_timed d v t)). ⊎_elim (λ (g : is_hit (operation_at d v t) ≡ true). inr (first v t ts i g)) (λ (g : Pending v). inl g) (pending_from v t h))
      (λ (o : Source (after_timed d v t) ts i). inr (shifted v t ts i o))

  -- a byte that differs before place i
  pub changed_source : (ts : List TimedCycle) (i : ℕ) (v : World) → Whole d.part.word v.bytes → Differs v (before_timed d v ts i) x → (Pending v) ⊎ Source v ts i
  changed_source ts zero v k h = absurd (h refl)
  changed_source [] (suc i) v k h = absurd (h refl)
  changed_source (t ∷ ts) (suc i) v k h =
      go (changed_source ts i (after_timed d v t) (stays_whole (device_at d t) v t.bus k)) (eqb (byte_in (after_timed d v t) x) (byte_in v x)) refl (is_hit (effect_in d v t)) refl
    where
      u : World
      u = after_timed d v t

      go : (Differs u (before_timed d u ts i) x → (Pending u) ⊎ Source u ts i)
          → (same : Bool) → eqb (byte_in u x) (byte_in v x) ≡ same → (hit : Bool) → is_hit (effect_in d v t) ≡ hit
          → (Pending v) ⊎ Source v (t ∷ ts) (suc i)
      go more true e hit f = on v t ts i (more (λ q. h (q ∙ eqb-true (byte_in u x) (byte_in v x) e)))
      go more false e true f = inl (ended_pending v t f)
      go more false e false f = absurd (eqb-false (byte_in u x) (byte_in v x) e (byte_kept (device_at d t) v t.bus k x f))
