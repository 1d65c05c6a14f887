-- What may touch which byte, where the busy times differ from cycle to cycle.
use mathlib.Core.Path.{◌≡◌, refl, sym, ap, subst, ◌∙◌}
use mathlib.Core.Bool.{Bool, true, false}
use mathlib.Core.List.{List, [], ◌∷◌}
use mathlib.Core.Logic.{◌⊎◌, ⊎_elim}
use Prim.Native.Nat.{ℕ, zero, suc}
use lib.ListN.{length}
use lib.Seq.{take-length}
use Rattle.common.specs.Lists.{Bytes}
use Rattle.common.proofs.Choice.{unlike}
use Rattle.device.specs.declared.Device.{Device}
use Rattle.model_types.specs.declared.Effect.{Effect}
use Rattle.model_types.specs.declared.Effect.TheVariants.{Nothing, Program, Erase, CutProgram}
use Rattle.model_types.specs.Phases.{is_pending}
use Rattle.model.specs.Begun.{operation_of, pending_of}
use Rattle.model_history.specs.History.{World}
use Rattle.model_touch.specs.Touch.{in_unit, in_block, is_on, byte_in, Differs, TouchesOnly, OnlyClears}
use Rattle.model_touch.proofs.Manual.{idle_none}
use Rattle.model_touch.proofs.Pieces.{erases}
use Rattle.model_touch.proofs.Steps.{Whole, bytes_whole, stays_whole, byte_kept, byte_clears, all_kept}
use Rattle.model_touch.proofs.Origins.{on_operation}
use Rattle.model_touch.proofs.Confirms.{Begins, begins, boot_unlocked}
use Rattle.recording_history.specs.Timed.{TimedCycle, device_at, after_timed, after_all_timed, before_timed, effect_in, ConfirmedIn, UnlockedIn, Touch}
use Rattle.recording_history.proofs.Sources.{Source, changed_source}

-- the lent bytes stay those of their units
whole_before : (d : Device) (ts : List TimedCycle) (i : ℕ) (v : World) → Whole d.part.word v.bytes → Whole d.part.word (before_timed d v ts i).bytes
whole_before d ts zero v k = k
whole_before d [] (suc i) v k = k
whole_before d (t ∷ ts) (suc i) v k = whole_before d ts i (after_timed d v t) (stays_whole (device_at d t) v t.bus k)

-- a confirm on a boot byte was unlocked
pub boot_confirm : {d : Device} {v : World} {ts : List TimedCycle} {i x : ℕ} (k : ConfirmedIn d v ts i x) → in_block d.part 0 x ≡ true → UnlockedIn k
boot_confirm {d} {v} {ts} {i} {x} k o =
    let u : World = before_timed d v ts k.index in
    boot_unlocked d.part x u.state.phase k.timed.bus.cycle k.own o
    (begins (device_at d k.timed) u k.timed.bus x (subst (λ (e : Effect). is_on d.part e x ≡ true) (sym k.begins) k.own)).open_to

module _ (d : Device) (v : World) (ts : List TimedCycle) (idle : is_pending v.state.phase ≡ false) (bytes : Bytes v.bytes) where
  none : pending_of d.part v.state ≡ Nothing
  none = idle_none v.state.phase d.part v.state.address idle

  made : (i x : ℕ) → Source d x v ts i → ConfirmedIn d v ts i x
  made i x o =
      let u : World = before_timed d v ts o.index in
      let q : Begins (device_at d o.timed) u o.timed.bus = begins (device_at d o.timed) u o.timed.bus x o.hit in
      record {
        index = o.index;
        sooner = o.sooner;
        timed = o.timed;
        there = o.there;
        write = q.write;
        accepted = q.accepted;
        begins = q.begins;
        own = subst (λ (e : Effect). is_on d.part e x ≡ true) q.begins o.hit;
        supplied = q.supplied;
      }

  pub changed : (i x : ℕ) → Differs v (before_timed d v ts i) x → ConfirmedIn d v ts i x
  changed i x h =
      ⊎_elim (λ (p : is_on d.part (pending_of d.part v.state) x ≡ true). absurd (unlike (sym p ∙ ap (λ (e : Effect). is_on d.part e x) none)))
      (λ (o : Source d x v ts i). made i x o)
      (changed_source d x ts i v (bytes_whole d.part.word v.bytes bytes) h)

  changed_end : (x : ℕ) → Differs v (after_all_timed d v ts) x → ConfirmedIn d v ts (length ts) x
  changed_end x h = changed (length ts) x (λ q. h (sym (ap (λ (us : List TimedCycle). byte_in (after_all_timed d v us) x) (take-length ts)) ∙ q))

  module _ (i : ℕ) (t : TimedCycle) where
    abbrev u : World
    u = before_timed d v ts i

    whole : Whole d.part.word u.bytes
    whole = whole_before d ts i v (bytes_whole d.part.word v.bytes bytes)

    touches : (own : ℕ → Bool) → ((x : ℕ) → is_on d.part (effect_in d u t) x ≡ own x) → TouchesOnly own u (after_timed d u t)
    touches own e x o = byte_kept (device_at d t) u t.bus whole x (e x ∙ o)

    programs : (e : Effect) (a : ℕ) → effect_in d u t ≡ e → erases e ≡ false → ((x : ℕ) → is_on d.part e x ≡ in_unit d.part a x)
        → OnlyClears u (after_timed d u t) × TouchesOnly (in_unit d.part a) u (after_timed d u t)
    programs e a q h o = (
      λ x. byte_clears (device_at d t) u t.bus whole (ap erases q ∙ h) x,
      touches (in_unit d.part a) (λ x. ap (λ (z : Effect). is_on d.part z x) q ∙ o x),
    )

    erased : (k : ℕ) → operation_of (effect_in d u t) ≡ Erase k → TouchesOnly (in_block d.part k) u (after_timed d u t)
    erased k q = touches (in_block d.part k) (λ x. sym (on_operation d.part (effect_in d u t) x) ∙ ap (λ (z : Effect). is_on d.part z x) q)

  pub touch : Touch d v ts
  touch =
      record {
        byte_changes = changed_end;
        boot_byte = λ x h o. boot_confirm (changed_end x h) o;
        program = λ i t p a y e. programs i t (Program a y) a e refl (λ x. refl);
        erase = λ i t p k e. erased i t k e;
        cut_program = λ i t p a y e. programs i t (CutProgram a y) a e refl (λ x. refl);
        no_effect = λ i t p e. all_kept (device_at d t) (before_timed d v ts i) t.bus (whole i t) e;
      }
