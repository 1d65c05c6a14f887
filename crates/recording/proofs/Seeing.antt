-- What a cycle shows, it shows before anything is stored: the read of a cycle that ends an operation gives the status.
use mathlib.Core.Path.{◌≡◌, refl, ap, ◌∙◌}
use mathlib.Core.Bool.{Bool, true, false, ◌||◌}
use mathlib.Core.List.{List}
use Prim.Native.Nat.{ℕ}
use lib.ListN.{length}
use Rattle.common.proofs.Choice.{and_rest, and_none, or_left, or_right, unlike}
use Rattle.device.specs.declared.Part.{Part}
use Rattle.device.specs.declared.Device.{Device}
use Rattle.model_types.specs.declared.Cycle.{Cycle}
use Rattle.model_types.specs.declared.Decision.{Decision}
use Rattle.model_types.specs.declared.Effect.{Effect}
use Rattle.model_types.specs.declared.Effect.TheVariants.{Nothing}
use Rattle.model_types.specs.declared.Kind.{Kind}
use Rattle.model_types.specs.declared.Kind.TheVariants.{Read, Write, Idle}
use Rattle.model_types.specs.declared.Mode.{Mode}
use Rattle.model_types.specs.declared.Mode.TheVariants.{Status}
use Rattle.model_types.specs.declared.Settled.{Settled}
use Rattle.model_types.specs.declared.State.{State}
use Rattle.model_types.specs.declared.Phase.{Phase}
use Rattle.model_types.specs.declared.Phase.TheVariants.{Free, EraseAwaited, DataAwaited, Programming, Erasing, Suspending, Suspended}
use Rattle.model_levels.specs.Levels.{rp_low, vpp_low}
use Rattle.model_types.specs.Phases.{is_busy, is_pending}
use Rattle.model_operation.specs.Settling.{cut_of, settle_of}
use Rattle.model_rules.specs.Cycles.{decide_of, accept_of, respond_of, reply_to}
use Rattle.model_rules.proofs.Facts.{Fine}
use Rattle.model.specs.Arrays.{array_of, seen_of, array_after, answer_of}
use Rattle.model.proofs.Outcome.{outcome, accept_cases, accept_effect}
use Rattle.model.proofs.Keeping.{settled_mode}
use Rattle.recording.specs.Recordings.{cuts_off}

-- with nothing pending a cut is no effect
no_cut : (ph : Phase) (part : Part) (a : ℕ) → is_pending ph ≡ false → cut_of ph part a ≡ Nothing
no_cut Free part a e = refl
no_cut EraseAwaited part a e = refl
no_cut DataAwaited part a e = refl
no_cut (Programming b) part a e = absurd (unlike e)
no_cut Erasing part a e = absurd (unlike e)
no_cut (Suspending n) part a e = absurd (unlike e)
no_cut Suspended part a e = absurd (unlike e)

-- with nothing cut and nothing busy, steps 1 to 3 do nothing to the array
pub settles_nothing : (part : Part) (s : State) (c : Cycle) → cuts_off part s c ≡ false → is_busy s.phase ≡ false
    → (settle_of part s c.pins).effect ≡ Nothing
unfolding settle_of cuts_off
settles_nothing part s c whole calm = go (is_pending s.phase) refl
  where
    low : (b : Bool) → rp_low c.pins ≡ b → is_pending s.phase ≡ false → (settle_of part s c.pins).effect ≡ Nothing
    low true e p = simp (e, no_cut s.phase part s.address p)
    low false e p = simp (e, p, and_none (vpp_low part c.pins), calm)

    go : (b : Bool) → is_pending s.phase ≡ b → (settle_of part s c.pins).effect ≡ Nothing
    go true p =
        let h = and_rest (is_pending s.phase) (rp_low c.pins || vpp_low part c.pins) p whole in
        simp (or_left (rp_low c.pins) (vpp_low part c.pins) h, or_right (rp_low c.pins) (vpp_low part c.pins) h, calm)
    go false p = low (rp_low c.pins) refl p

module _ (d : Device) (s : State) (c : Cycle) (us rs : List ℕ) (whole : cuts_off d.part s c ≡ false) where
  abbrev Early : Decision → Type 0
  Early x = seen_of x.reply (array_of x.effect d.part rs us) ≡ seen_of x.reply us

  abbrev t : Settled
  t = settle_of d.part s c.pins

  reads : (m : Mode) → m ≡ Status → seen_of (reply_to m d.part c.address t.state.status) (array_of t.effect d.part rs us) ≡ seen_of (reply_to m d.part c.address t.state.status) us
  reads m e = rw e refl

  kinds : Fine d s c (length us) (length rs) → is_busy s.phase ≡ true → rp_low c.pins ≡ false → (k : Kind) → Early (respond_of k d c t)
  kinds f b up Read = reads t.state.mode (settled_mode d s c f.proper up b)
  kinds f b up Write = refl
  kinds f b up Idle = refl

  accepted : Fine d s c (length us) (length rs) → (b : Bool) → is_busy s.phase ≡ b → Early (accept_of d c t)
  accepted f true b = accept_cases d c t Early (λ e. refl) (λ e k q. kinds f b e k)
  accepted f false b =
      ap (λ (x : Effect). seen_of (accept_of d c t).reply (array_of x d.part rs us)) (accept_effect d c t ∙ settles_nothing d.part s c whole b)

  -- a cycle that cuts nothing is seen as it would be on the array before it
  pub seen_early : (answer_of d s c us rs).seen ≡ seen_of (decide_of d s c (length us) (length rs)).reply us
  unfolding answer_of array_after
  seen_early = outcome d s c (length us) (length rs) Early (λ m z e. refl) (λ z f. accepted f (is_busy s.phase) refl)
