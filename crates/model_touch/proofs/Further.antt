-- What follows beside the statement, by rules: bytes that stay, what was begun, wrong starts, the same on units.
use mathlib.Core.Path.{◌≡◌, refl, sym, ap, ap₂, ◌∙◌}
use mathlib.Core.Bool.{Bool, true, false, not, ◌&&◌, ◌||◌}
use mathlib.Core.List.{List, [], ◌∷◌}
use mathlib.Core.Logic.{◌⊎◌, inl, inr, ⊎_elim, ◌↔◌}
use Prim.Native.Nat.{ℕ, zero, suc, ◌+◌, ◌*◌, ◌≤◌, ◌<◌}
use native.Mathlib.Omega.{arith}
use lib.ListN.{length}
use lib.Seq.{ext_get_or}
use lib.Dec.{eqb, ltb, leb}
use borrow.Author.Tests.{eqb-true, eqb-false, eq-eqb, le-leb, lt-ltb}
use Rattle.std.specs.Prelude.{if◌then◌else◌}
use Rattle.common.specs.Lists.{Bytes}
use Rattle.common.proofs.Choice.{and_left, and_right, unlike}
use Rattle.units.specs.Units.{units, lent}
use Rattle.units.specs.Address.{byte_at}
use Rattle.device.specs.declared.Part.{Part}
use Rattle.device.specs.declared.Device.{Device}
use Rattle.device.specs.Parts.{unknown_device, size_of}
use Rattle.model_types.specs.declared.State.{State}
use Rattle.model_types.specs.declared.Decision.{Decision}
use Rattle.model_types.specs.declared.Effect.{Effect}
use Rattle.model_types.specs.declared.Effect.TheVariants.{Nothing, Program, Erase, CutProgram, CutErase}
use Rattle.model_types.specs.Kinds.{is_write}
use Rattle.model_levels.specs.Levels.{rp_low, vpp_high, locked}
use Rattle.model_types.specs.Phases.{is_pending}
use Rattle.model_states.specs.States.{improper}
use Rattle.model_actions.specs.Performed.{unsupplied}
use Rattle.model_rules.specs.Cycles.{number_of, decide_of}
use Rattle.model_rules.proofs.Facts.{parts_proper}
use Rattle.model.specs.Arrays.{is_refusal, answer_of}
use Rattle.model.specs.Begun.{operation_of, pending_of, starts_of, begun_by}
use Rattle.model.proofs.Outcome.{outcome}
use Rattle.model.proofs.Borders.{kept}
use Rattle.model.proofs.Claims.{keeps_bytes, left_units}
use Rattle.model_history.specs.History.{Bus, World, world_of, world_after}
use Rattle.model_touch.specs.Touch.{by_rules, after_cycle, after_all, before, At, effect_on, begun_on, asked_on, among_bytes, in_unit, is_on, byte_in, Confirmed, Begun, IsConfirm, stopped, wrong_start, on_units, buses_on}
use Rattle.model_touch.proofs.Pieces.{inside}
use Rattle.model_touch.proofs.Origins.{Origin, ended_origin}
use Rattle.model_touch.proofs.Manual.{idle_none, changed}

-- as many bytes at every point
long : (d : Device) (bs : List Bus) (i : ℕ) (v : World) → length (before by_rules d v bs i).bytes ≡ length v.bytes
long d bs zero v = refl
long d [] (suc i) v = refl
long d (b ∷ bs) (suc i) v = long d bs i (after_cycle by_rules d v b) ∙ keeps_bytes d v.state b.cycle v.bytes b.residue

-- a confirm that is stopped begins nothing
stopped_none : (d : Device) (v : World) (b : Bus) → stopped d v b ≡ true → begun_on d v b ≡ Nothing
unfolding begun_by starts_of
stopped_none d v b e = go (eqb number 0) (unsupplied d.part b.cycle v.state) (locked d.part b.cycle) e
  where
    number : ℕ
    number = number_of d v.state b.cycle (length (lent d.part.word v.bytes)) (length (units d.part.word b.residue))

    W : Bool
    W = is_write b.cycle.kind && not (rp_low b.cycle.pins)

    apart : (t : Bool) → (t && false) ≡ false
    apart true = refl
    apart false = refl

    go : (n u l : Bool) → ((not n || u) || l) ≡ true → (if n then (if (W && not u) && not l then asked_on d v b else Nothing) else Nothing) ≡ Nothing
    go false u l h = refl
    go true false false h = absurd (unlike (sym h))
    go true true l h = ap (λ (t : Bool). if t && not l then asked_on d v b else Nothing) (apart W)
    go true false true h = ap (λ (t : Bool). if t then asked_on d v b else Nothing) (apart (W && true))

module _ (d : Device) (v : World) (bs : List Bus) (idle : is_pending v.state.phase ≡ false) (bytes : Bytes v.bytes) where
  pub as_it_was : (x : ℕ) → (Confirmed by_rules d v bs x → ⊥) → (i : ℕ) → byte_in (before by_rules d v bs i) x ≡ byte_in v x
  as_it_was x never i = go (eqb (byte_in (before by_rules d v bs i) x) (byte_in v x)) refl
    where
      go : (t : Bool) → eqb (byte_in (before by_rules d v bs i) x) (byte_in v x) ≡ t → byte_in (before by_rules d v bs i) x ≡ byte_in v x
      go true e = eqb-true _ _ e
      go false e = absurd (never (changed d v bs idle bytes i x (eqb-false _ _ e)).confirm)

  all_as_was : ((x : ℕ) → Confirmed by_rules d v bs x → ⊥) → (i : ℕ) → (before by_rules d v bs i).bytes ≡ v.bytes
  all_as_was never i = ext_get_or 0 (before by_rules d v bs i).bytes v.bytes (long d bs i v) (λ x l. as_it_was x (never x) i)

  pub never_high : ((i : ℕ) (b : Bus) → At bs i b → vpp_high d.part b.cycle.pins ≡ false) → (i : ℕ) → (before by_rules d v bs i).bytes ≡ v.bytes
  never_high low = all_as_was (λ x k. unlike (sym k.supplied ∙ low k.index k.bus k.there))

  pub none_begun : ((i : ℕ) (b : Bus) → At bs i b → begun_on d (before by_rules d v bs i) b ≡ Nothing) → (i : ℕ) → (before by_rules d v bs i).bytes ≡ v.bytes
  none_begun never = all_as_was (λ x k. unlike (sym k.own ∙ ap (λ (e : Effect). is_on d.part e x) (sym k.begins ∙ never k.index k.bus k.there)))

  pub all_stopped : ((i : ℕ) (b : Bus) → At bs i b → IsConfirm d (before by_rules d v bs i) b → stopped d (before by_rules d v bs i) b ≡ true)
      → (i : ℕ) → (before by_rules d v bs i).bytes ≡ v.bytes
  all_stopped stop = all_as_was never
    where
      never : (x : ℕ) → Confirmed by_rules d v bs x → ⊥
      never x k =
          let u : World = before by_rules d v bs k.index in
          let asks : asked_on d u k.bus ≡ Nothing → ⊥ = λ q. unlike (sym k.own ∙ ap (λ (e : Effect). is_on d.part e x) q) in
          asks (sym k.begins ∙ stopped_none d u k.bus (stop k.index k.bus k.there (k.write, asks)))

-- the same operation, as a test
same_as : Effect → Effect → Bool
same_as Nothing e = false
same_as (Program a y) Nothing = false
same_as (Program a y) (Program c z) = eqb a c && eqb y z
same_as (Program a y) (Erase k) = false
same_as (Program a y) (CutProgram c z) = false
same_as (Program a y) (CutErase k) = false
same_as (Erase j) Nothing = false
same_as (Erase j) (Program c z) = false
same_as (Erase j) (Erase k) = eqb j k
same_as (Erase j) (CutProgram c z) = false
same_as (Erase j) (CutErase k) = false
same_as (CutProgram a y) e = false
same_as (CutErase k) e = false

same_none : (op : Effect) → same_as op Nothing ≡ false
unfolding same_as
same_none Nothing = refl
same_none (Program a y) = refl
same_none (Erase k) = refl
same_none (CutProgram a y) = refl
same_none (CutErase k) = refl

same_is : (op e : Effect) → same_as op e ≡ true → e ≡ op
unfolding same_as
same_is Nothing e h = absurd (unlike (sym h))
same_is (Program a y) Nothing h = absurd (unlike (sym h))
same_is (Program a y) (Program c z) h = ap₂ (λ (m n : ℕ). Program m n) (sym (eqb-true a c (and_left (eqb a c) (eqb y z) h))) (sym (eqb-true y z (and_right (eqb a c) (eqb y z) h)))
same_is (Program a y) (Erase k) h = absurd (unlike (sym h))
same_is (Program a y) (CutProgram c z) h = absurd (unlike (sym h))
same_is (Program a y) (CutErase k) h = absurd (unlike (sym h))
same_is (Erase j) Nothing h = absurd (unlike (sym h))
same_is (Erase j) (Program c z) h = absurd (unlike (sym h))
same_is (Erase j) (Erase k) h = ap (λ (m : ℕ). Erase m) (sym (eqb-true j k h))
same_is (Erase j) (CutProgram c z) h = absurd (unlike (sym h))
same_is (Erase j) (CutErase k) h = absurd (unlike (sym h))
same_is (CutProgram a y) e h = absurd (unlike (sym h))
same_is (CutErase k) e h = absurd (unlike (sym h))

same_self : (e : Effect) → (operation_of e ≡ Nothing → ⊥) → same_as (operation_of e) (operation_of e) ≡ true
unfolding same_as
same_self Nothing n = absurd (n refl)
same_self (Program a y) n = rw (eq-eqb a a refl, eq-eqb y y refl) refl
same_self (Erase k) n = eq-eqb k k refl
same_self (CutProgram a y) n = rw (eq-eqb a a refl, eq-eqb y y refl) refl
same_self (CutErase k) n = eq-eqb k k refl

-- what ends or is cut was begun by an earlier cycle of the list
pub was_begun : (d : Device) (v : World) (bs : List Bus) → is_pending v.state.phase ≡ false
    → (i : ℕ) (b : Bus) → (operation_of (effect_on d (before by_rules d v bs i) b) ≡ Nothing → ⊥)
    → Begun by_rules d v bs i (operation_of (effect_on d (before by_rules d v bs i) b))
was_begun d v bs idle i b n =
    ⊎_elim
    (λ (p : same_as op (pending_of d.part v.state) ≡ true). absurd (unlike (sym p ∙ ap (same_as op) (idle_none v.state.phase d.part v.state.address idle) ∙ same_none op)))
    (λ (o : Origin (same_as op) (same_none op) d v bs i). record {
      index = o.index;
      sooner = o.sooner;
      bus = o.bus;
      there = o.there;
      begins = same_is op (begun_on d (before by_rules d v bs o.index) o.bus) o.hit;
    })
    (ended_origin (same_as op) (same_none op) d bs i v b (same_self (effect_on d (before by_rules d v bs i) b) n))
  where
    op : Effect
    op = operation_of (effect_on d (before by_rules d v bs i) b)

-- a wrong start refuses every cycle, and nothing changes
wrong_cycle : (d : Device) (v : World) (b : Bus) → wrong_start d v ≡ true → after_cycle by_rules d v b ≡ v
unfolding answer_of
wrong_cycle d v b e = ap₂ (λ (s : State) (xs : List ℕ). world_of s xs) refused.1 (kept d v.state b.cycle v.bytes b.residue refused.0)
  where
    n : ℕ
    n = length (lent d.part.word v.bytes)

    right : unknown_device d ≡ false → n ≡ size_of d.part → improper d v.state ≡ false → wrong_start d v ≡ false
    right p q r = rw (p, eq-eqb n (size_of d.part) q, r) refl

    refused : (is_refusal (decide_of d v.state b.cycle n (length (units d.part.word b.residue))).reply ≡ true)
        × ((decide_of d v.state b.cycle n (length (units d.part.word b.residue))).state ≡ v.state)
    refused =
        outcome d v.state b.cycle n (length (units d.part.word b.residue)) (λ (x : Decision). (is_refusal x.reply ≡ true) × (x.state ≡ v.state))
        (λ m z q. (refl, refl))
        (λ z f. absurd (unlike (sym e ∙ right f.known f.sized (parts_proper d v.state f.proper))))

pub wrong_start_lem : (d : Device) (bs : List Bus) (i : ℕ) (v : World) → wrong_start d v ≡ true → before by_rules d v bs i ≡ v
wrong_start_lem d bs zero v e = refl
wrong_start_lem d [] (suc i) v e = refl
wrong_start_lem d (b ∷ bs) (suc i) v e =
    ap (λ (u : World). before by_rules d u bs i) (wrong_cycle d v b e) ∙ wrong_start_lem d bs i v e

-- the units of the lent bytes have the history of the model
pub units_history : (bs : List Bus) (d : Device) (v : World) → on_units d (after_all by_rules d v bs) ≡ world_after d (on_units d v) (buses_on d bs)
units_history [] d v = refl
units_history (b ∷ bs) d v =
    units_history bs d (after_cycle by_rules d v b)
    ∙ ap (λ (xs : List ℕ). world_after d (world_of (after_cycle by_rules d v b).state xs) (buses_on d bs)) (left_units d v.state b.cycle v.bytes b.residue)

-- the bytes of a unit: in byte mode one, in word mode two
among_is : (w : Bool) (a x : ℕ) → (among_bytes w a 1 x ≡ true) ↔ ((x ≡ byte_at w a false) ⊎ (x ≡ byte_at w a true))
unfolding among_bytes
among_is false a x = (
  λ h. inl (omega (arith, (inside a 1 x h).0, (inside a 1 x h).1)),
  ⊎_elim (λ (q : x ≡ a). one q) (λ (q : x ≡ a). one q),
)
  where
    one : x ≡ a → (leb a x && ltb x (a + 1)) ≡ true
    one q = rw (le-leb a x (omega arith), lt-ltb x (a + 1) (omega arith)) refl
among_is true a x = (
  λ h. which (eqb x (2 * a)) refl (inside (2 * a) 2 x h),
  ⊎_elim (λ (q : x ≡ 2 * a + 0). two (omega arith) (omega arith)) (λ (q : x ≡ 2 * a + 1). two (omega arith) (omega arith)),
)
  where
    two : 2 * a ≤ x → x < 2 * a + 2 → (leb (2 * a) x && ltb x (2 * a + 2)) ≡ true
    two p q = rw (le-leb (2 * a) x p, lt-ltb x (2 * a + 2) q) refl

    which : (t : Bool) → eqb x (2 * a) ≡ t → (2 * a ≤ x) × (x < 2 * a + 2) → (x ≡ 2 * a + 0) ⊎ (x ≡ 2 * a + 1)
    which true e h = inl (let z = eqb-true x (2 * a) e in omega arith)
    which false e h = inr (let z = eqb-false x (2 * a) e in omega (arith, h.0, h.1))

pub own_bytes : (part : Part) (a x : ℕ) → (in_unit part a x ≡ true) ↔ ((x ≡ byte_at part.word a false) ⊎ (x ≡ byte_at part.word a true))
own_bytes part a x = among_is part.word a x
