-- The manual's statement, by rules.
use mathlib.Core.Path.{◌≡◌, refl, sym, ap, subst, ◌∙◌}
use mathlib.Core.Bool.{Bool, true, false}
use mathlib.Core.List.{List, [], ◌∷◌}
use mathlib.Core.Logic.{◌⊎◌, ⊎_elim}
use Prim.Native.Nat.{ℕ, zero, suc}
use lib.ListN.{length}
use lib.Seq.{take-length}
use Rattle.common.specs.Lists.{Bytes}
use Rattle.common.proofs.Choice.{unlike}
use Rattle.device.specs.declared.Part.{Part}
use Rattle.device.specs.declared.Device.{Device}
use Rattle.model_types.specs.declared.Phase.{Phase}
use Rattle.model_types.specs.declared.Phase.TheVariants.{Free, EraseAwaited, DataAwaited, Programming, Erasing, Suspending, Suspended}
use Rattle.model_types.specs.declared.Effect.{Effect}
use Rattle.model_types.specs.declared.Effect.TheVariants.{Nothing, Program, Erase, CutProgram}
use Rattle.model_types.specs.Phases.{is_pending}
use Rattle.model.specs.Begun.{operation_of, pending_in, pending_of}
use Rattle.model_history.specs.History.{Bus, World}
use Rattle.model_touch.specs.Touch.{by_rules, after_cycle, after_all, before, effect_on, in_unit, in_block, is_on, byte_in, Differs, TouchesOnly, OnlyClears, Confirmed, ConfirmedBefore, Unlocked, Manual}
use Rattle.model_touch.proofs.Pieces.{erases}
use Rattle.model_touch.proofs.Steps.{Whole, bytes_whole, stays_whole, byte_kept, byte_clears, all_kept}
use Rattle.model_touch.proofs.Origins.{Origin, on_operation, ended_origin, changed_origin}
use Rattle.model_touch.proofs.Confirms.{Begins, begins, boot_unlocked}

-- nothing is pending where no operation is running, being suspended or suspended
pub idle_none : (ph : Phase) (part : Part) (a : ℕ) → is_pending ph ≡ false → pending_in ph part a ≡ Nothing
idle_none Free part a e = refl
idle_none EraseAwaited part a e = refl
idle_none DataAwaited part a e = refl
idle_none (Programming y) part a e = absurd (unlike e)
idle_none Erasing part a e = absurd (unlike e)
idle_none (Suspending n) part a e = absurd (unlike e)
idle_none Suspended part a e = absurd (unlike e)

-- the lent bytes stay those of their units
whole_before : (d : Device) (bs : List Bus) (i : ℕ) (v : World) → Whole d.part.word v.bytes → Whole d.part.word (before by_rules d v bs i).bytes
whole_before d bs zero v k = k
whole_before d [] (suc i) v k = k
whole_before d (b ∷ bs) (suc i) v k = whole_before d bs i (after_cycle by_rules d v b) (stays_whole d v b k)

-- a confirm on a boot byte was unlocked
pub boot_confirm : {d : Device} {v : World} {bs : List Bus} {x : ℕ} (k : Confirmed by_rules d v bs x) → in_block d.part 0 x ≡ true → Unlocked k
boot_confirm {d} {v} {bs} {x} k o =
    let u : World = before by_rules d v bs k.index in
    boot_unlocked d.part x u.state.phase k.bus.cycle k.own o
    (begins d u k.bus x (subst (λ (e : Effect). is_on d.part e x ≡ true) (sym k.begins) k.own)).open_to

module _ (d : Device) (v : World) (bs : List Bus) (idle : is_pending v.state.phase ≡ false) (bytes : Bytes v.bytes) where
  none : pending_of d.part v.state ≡ Nothing
  none = idle_none v.state.phase d.part v.state.address idle

  -- a confirm, from where what is on byte x was begun
  confirm : (i x : ℕ) → (is_on d.part (pending_of d.part v.state) x ≡ true) ⊎ Origin (λ (e : Effect). is_on d.part e x) refl d v bs i → ConfirmedBefore by_rules d v bs i x
  confirm i x =
      ⊎_elim (λ (p : is_on d.part (pending_of d.part v.state) x ≡ true). absurd (unlike (sym p ∙ ap (λ (e : Effect). is_on d.part e x) none)))
      (λ (o : Origin (λ (e : Effect). is_on d.part e x) refl d v bs i). made o)
    where
      made : Origin (λ (e : Effect). is_on d.part e x) refl d v bs i → ConfirmedBefore by_rules d v bs i x
      made o =
          let u : World = before by_rules d v bs o.index in
          let q : Begins d u o.bus = begins d u o.bus x o.hit in
          record {
            confirm = record {
              index = o.index;
              bus = o.bus;
              there = o.there;
              write = q.write;
              accepted = q.accepted;
              begins = q.begins;
              own = subst (λ (e : Effect). is_on d.part e x ≡ true) q.begins o.hit;
              supplied = q.supplied;
            };
            sooner = o.sooner;
          }

  -- a byte that differs before place i, and one that cycle i changes
  pub changed : (i x : ℕ) → Differs v (before by_rules d v bs i) x → ConfirmedBefore by_rules d v bs i x
  changed i x h = confirm i x (changed_origin d x bs i v (bytes_whole d.part.word v.bytes bytes) h)

  pub changed_in : (i : ℕ) (b : Bus) (x : ℕ) → Differs (before by_rules d v bs i) (after_cycle by_rules d (before by_rules d v bs i) b) x → ConfirmedBefore by_rules d v bs i x
  changed_in i b x h = go (is_on d.part (effect_on d u b) x) refl
    where
      u : World
      u = before by_rules d v bs i

      go : (t : Bool) → is_on d.part (effect_on d u b) x ≡ t → ConfirmedBefore by_rules d v bs i x
      go true e = confirm i x (ended_origin (λ (z : Effect). is_on d.part z x) refl d bs i v b (on_operation d.part (effect_on d u b) x ∙ e))
      go false e = absurd (h (byte_kept d u b (whole_before d bs i v (bytes_whole d.part.word v.bytes bytes)) x e))

  changed_end : (x : ℕ) → Differs v (after_all by_rules d v bs) x → Confirmed by_rules d v bs x
  changed_end x h = (changed (length bs) x (λ q. h (sym (ap (λ (cs : List Bus). byte_in (after_all by_rules d v cs) x) (take-length bs)) ∙ q))).confirm

  module _ (i : ℕ) (b : Bus) where
    abbrev u : World
    u = before by_rules d v bs i

    whole : Whole d.part.word u.bytes
    whole = whole_before d bs i v (bytes_whole d.part.word v.bytes bytes)

    touches : (own : ℕ → Bool) → ((x : ℕ) → is_on d.part (effect_on d u b) x ≡ own x) → TouchesOnly own u (after_cycle by_rules d u b)
    touches own e x o = byte_kept d u b whole x (e x ∙ o)

    program : (e : Effect) (a : ℕ) → effect_on d u b ≡ e → erases e ≡ false → ((x : ℕ) → is_on d.part e x ≡ in_unit d.part a x)
        → OnlyClears u (after_cycle by_rules d u b) × TouchesOnly (in_unit d.part a) u (after_cycle by_rules d u b)
    program e a q h o = (
      λ x. byte_clears d u b whole (ap erases q ∙ h) x,
      touches (in_unit d.part a) (λ x. ap (λ (z : Effect). is_on d.part z x) q ∙ o x),
    )

    erase : (k : ℕ) → operation_of (effect_on d u b) ≡ Erase k → TouchesOnly (in_block d.part k) u (after_cycle by_rules d u b)
    erase k q = touches (in_block d.part k) (λ x. sym (on_operation d.part (effect_on d u b) x) ∙ ap (λ (z : Effect). is_on d.part z x) q)

  pub manual : Manual by_rules d v bs
  manual =
      record {
        byte_changes = changed_end;
        boot_byte = λ x h o. boot_confirm (changed_end x h) o;
        program = λ i b p a y e. program i b (Program a y) a e refl (λ x. refl);
        erase = λ i b p k e. erase i b k e;
        cut_program = λ i b p a y e. program i b (CutProgram a y) a e refl (λ x. refl);
        no_effect = λ i b p e. all_kept d (before by_rules d v bs i) b (whole i b) e;
      }
