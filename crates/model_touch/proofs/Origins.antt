-- Where what ends, and what changes a byte, was begun: an earlier cycle of the list, or before the list. By rules.
use mathlib.Core.Path.{◌≡◌, refl, ap, ◌∙◌}
use mathlib.Core.Bool.{Bool, true, false}
use mathlib.Core.List.{List, [], ◌∷◌}
use mathlib.Core.Logic.{◌⊎◌, inl, inr, ⊎_elim}
use Prim.Native.Nat.{ℕ, zero, suc, ◌+◌, ◌<◌}
use native.Mathlib.Omega.{arith}
use lib.Dec.{eqb}
use borrow.Author.Tests.{eqb-true, eqb-false}
use Rattle.std.specs.Prelude.{if◌then◌else◌}
use Rattle.common.proofs.Choice.{if_true}
use Rattle.device.specs.declared.Part.{Part}
use Rattle.device.specs.declared.Device.{Device}
use Rattle.model_types.specs.declared.State.{State}
use Rattle.model_types.specs.declared.Cycle.{Cycle}
use Rattle.model_types.specs.declared.Effect.{Effect}
use Rattle.model_types.specs.declared.Effect.TheVariants.{Nothing, Program, Erase, CutProgram, CutErase}
use Rattle.model_types.specs.Phases.{is_awaited}
use Rattle.model_rules.specs.Cycles.{decide_of}
use Rattle.model.specs.Arrays.{answer_of}
use Rattle.model.specs.Begun.{operation_of, pending_of, begun_by}
use Rattle.model.proofs.Claims.{conserved, begun_from_lem, begun_unawaited}
use Rattle.model_history.specs.History.{Bus, World}
use Rattle.model_touch.specs.Touch.{by_rules, after_cycle, before, At, effect_on, begun_on, is_on, byte_in, Differs}
use Rattle.model_touch.proofs.Steps.{Whole, stays_whole, byte_kept}

-- a test of operations as a weight
one : Bool → ℕ
one b = if b then 1 else 0

weighs : (b : Bool) → b ≡ true → one b ≡ 1
unfolding one
weighs b e = rw e refl

lacks : (b : Bool) → b ≡ false → one b ≡ 0
unfolding one
lacks b e = rw e refl

holds : (b : Bool) → 0 < one b → b ≡ true
unfolding one
holds true h = refl
holds false h = absurd (omega arith)

module _ (t : Effect → Bool) (none : t Nothing ≡ false) where
  module _ (d : Device) (s : State) (c : Cycle) (n r : ℕ) where
    abbrev ended : Effect
    ended = operation_of (decide_of d s c n r).effect

    abbrev later : Effect
    later = pending_of d.part (decide_of d s c n r).state

    abbrev begun : Effect
    begun = begun_by d s c n r

    abbrev sooner : Effect
    sooner = pending_of d.part s

    law : one (t ended) + one (t later) ≡ one (t begun) + one (t sooner)
    law = conserved (λ (e : Effect). one (t e)) (lacks (t Nothing) none) d s c n r

    -- what ends or is cut was pending
    ended_pending : t ended ≡ true → t sooner ≡ true
    ended_pending e = go (is_awaited s.phase) refl
      where
        go : (a : Bool) → is_awaited s.phase ≡ a → t sooner ≡ true
        go true a =
            let q : begun ≡ later = begun_from_lem d s c n r ∙ if_true (is_awaited s.phase) later Nothing a in
            let z : one (t begun) ≡ one (t later) = ap (λ (x : Effect). one (t x)) q in
            holds (t sooner) (omega (arith, law, weighs (t ended) e))
        go false a =
            let z : one (t begun) ≡ 0 = lacks (t begun) (ap t (begun_unawaited d s c n r a) ∙ none) in
            holds (t sooner) (omega (arith, law, weighs (t ended) e))

    -- what is pending afterwards was begun or was pending
    pending_from : t later ≡ true → (t begun ≡ true) ⊎ (t sooner ≡ true)
    pending_from e = go (t begun) refl
      where
        go : (b : Bool) → t begun ≡ b → (t begun ≡ true) ⊎ (t sooner ≡ true)
        go true h = inl h
        go false h = inr (holds (t sooner) (omega (arith, law, weighs (t later) e, lacks (t begun) h)))

  -- a cycle in front of place i that begins an operation which passes the test
  pub record Origin (d : Device) (v : World) (bs : List Bus) (i : ℕ) : Type 0 where
    pub index : ℕ
    pub sooner : index < i
    pub bus : Bus
    pub there : At bs index bus
    pub hit : t (begun_on d (before by_rules d v bs index) bus) ≡ true

  module _ (d : Device) where
    abbrev step : World → Bus → World
    step v b = after_cycle by_rules d v b

    abbrev held : World → Effect
    held v = pending_of d.part v.state

    shifted : (v : World) (b : Bus) (bs : List Bus) (i : ℕ) → Origin d (step v b) bs i → Origin d v (b ∷ bs) (suc i)
    shifted v b bs i o = record { index = suc o.index; sooner = (let h = o.sooner in omega arith); bus = o.bus; there = o.there; hit = o.hit }

    first : (v : World) (b : Bus) (bs : List Bus) (i : ℕ) → t (begun_on d v b) ≡ true → Origin d v (b ∷ bs) (suc i)
    first v b bs i h = record { index = 0; sooner = omega arith; bus = b; there = refl; hit = h }

    cycle_ended : (v : World) (b : Bus) → t (operation_of (effect_on d v b)) ≡ true → t (held v) ≡ true
    cycle_ended v b h = ended_pending d v.state b.cycle _ _ h

    cycle_from : (v : World) (b : Bus) → t (held (step v b)) ≡ true → (t (begun_on d v b) ≡ true) ⊎ (t (held v) ≡ true)
    unfolding answer_of
    cycle_from v b h = pending_from d v.state b.cycle _ _ h

    -- one cycle more in front
    on : (v : World) (b : Bus) (bs : List Bus) (i : ℕ) → (t (held (step v b)) ≡ true) ⊎ Origin d (step v b) bs i → (t (held v) ≡ true) ⊎ Origin d v (b ∷ bs) (suc i)
    on v b bs i =
        ⊎_elim (λ (h : t (held (step v b)) ≡ true). ⊎_elim (λ (g : t (begun_on d v b) ≡ true). inr (first v b bs i g)) (λ (g : t (held v) ≡ true). inl g) (cycle_from v b h))
        (λ (o : Origin d (step v b) bs i). inr (shifted v b bs i o))

    pub pending_origin : (bs : List Bus) (i : ℕ) (v : World) → t (held (before by_rules d v bs i)) ≡ true → (t (held v) ≡ true) ⊎ Origin d v bs i
    pending_origin bs zero v h = inl h
    pending_origin [] (suc i) v h = inl h
    pending_origin (b ∷ bs) (suc i) v h = on v b bs i (pending_origin bs i (step v b) h)

    -- what ends or is cut at place i
    pub ended_origin : (bs : List Bus) (i : ℕ) (v : World) (b : Bus) → t (operation_of (effect_on d (before by_rules d v bs i) b)) ≡ true → (t (held v) ≡ true) ⊎ Origin d v bs i
    ended_origin bs i v b h = pending_origin bs i v (cycle_ended (before by_rules d v bs i) b h)

-- an effect is on the bytes of its operation
pub on_operation : (part : Part) (e : Effect) (x : ℕ) → is_on part (operation_of e) x ≡ is_on part e x
on_operation part Nothing x = refl
on_operation part (Program a y) x = refl
on_operation part (Erase k) x = refl
on_operation part (CutProgram a y) x = refl
on_operation part (CutErase k) x = refl

-- a byte that has changed before place i was in an operation that was pending, or that one of the i cycles began
module _ (d : Device) (x : ℕ) where
  abbrev is_hit : Effect → Bool
  is_hit e = is_on d.part e x

  pub changed_origin : (bs : List Bus) (i : ℕ) (v : World) → Whole d.part.word v.bytes → Differs v (before by_rules d v bs i) x
      → (is_on d.part (pending_of d.part v.state) x ≡ true) ⊎ Origin is_hit refl d v bs i
  changed_origin bs zero v k h = absurd (h refl)
  changed_origin [] (suc i) v k h = absurd (h refl)
  changed_origin (b ∷ bs) (suc i) v k h =
      go (changed_origin bs i (step is_hit refl d v b) (stays_whole d v b k)) (eqb (byte_in (step is_hit refl d v b) x) (byte_in v x)) refl (is_hit (effect_on d v b)) refl
    where
      u : World
      u = after_cycle by_rules d v b

      go : (Differs u (before by_rules d u bs i) x → (is_hit (pending_of d.part u.state) ≡ true) ⊎ Origin is_hit refl d u bs i)
          → (same : Bool) → eqb (byte_in u x) (byte_in v x) ≡ same → (hit : Bool) → is_hit (effect_on d v b) ≡ hit
          → (is_hit (pending_of d.part v.state) ≡ true) ⊎ Origin is_hit refl d v (b ∷ bs) (suc i)
      go more true e hit f = on is_hit refl d v b bs i (more (λ q. h (q ∙ eqb-true (byte_in u x) (byte_in v x) e)))
      go more false e true f = inl (cycle_ended is_hit refl d v b (on_operation d.part (effect_on d v b) x ∙ f))
      go more false e false f = absurd (eqb-false (byte_in u x) (byte_in v x) e (byte_kept d v b k x f))
