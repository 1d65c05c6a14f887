-- What steps 1 to 3 of a cycle come to, case by case, and what the cycle makes of it.
use mathlib.Core.Path.{◌≡◌, refl, sym, ap, ◌∙◌}
use mathlib.Core.Bool.{true, false}
use Prim.Native.Nat.{ℕ, ◌+◌, ◌-◌, ◌<◌}
use native.Mathlib.Omega.{arith}
use lib.ListN.{length}
use borrow.Author.Tests.{eq-eqb, ne_eqb}
use Rattle.common.proofs.Choice.{if_true, if_false, and_none, unlike}
use Rattle.common.proofs.Numbers.{given_no_row, no_head, no_tail}
use Rattle.device.specs.declared.Part.{Part}
use Rattle.device.specs.declared.Device.{Device}
use Rattle.model_types.specs.declared.Kind.{Kind}
use Rattle.model_types.specs.declared.Kind.TheVariants.{Read, Write, Idle}
use Rattle.model_types.specs.declared.Mode.{Mode}
use Rattle.model_types.specs.declared.Mode.TheVariants.{Status}
use Rattle.model_types.specs.declared.Phase.{Phase}
use Rattle.model_types.specs.declared.Phase.TheVariants.{Free, EraseAwaited, DataAwaited, Programming, Erasing, Suspending, Suspended}
use Rattle.model_types.specs.declared.State.{State}
use Rattle.model_types.specs.declared.Pins.{Pins}
use Rattle.model_types.specs.declared.Reply.{Reply}
use Rattle.model_types.specs.declared.Reply.TheVariants.{Quiet}
use Rattle.model_types.specs.declared.Effect.{Effect}
use Rattle.model_types.specs.declared.Effect.TheVariants.{Nothing}
use Rattle.model_types.specs.declared.Settled.{Settled}
use Rattle.model_types.specs.declared.Decision.{Decision}
use Rattle.model_levels.specs.Levels.{rp_low, vpp_low}
use Rattle.model_types.specs.Phases.{is_pending, is_busy, is_suspending}
use Rattle.model_types.specs.Status.{SR7, SR6, with_bits, without_bits}
use Rattle.model_states.specs.States.{is_at_rest, in_phase, reset_of}
use Rattle.model_commands.specs.Commands.{command_of, action_of, is_refuse}
use Rattle.model_actions.specs.Performed.{performed_of}
use Rattle.model_operation.specs.Settling.{settled_as, cut_of, finish_of, cut_bits, cut_by, counted_off, suspend_passed, passed_of, settle_of}
use Rattle.model_judge.specs.Judging.{early, judge_of}
use Rattle.model_rules.specs.Cycles.{refused_by, decided_as, decide_of}
use Rattle.model_rules.proofs.Facts.{Proper, proper_parts}
use Rattle.model_rules.specs.Inner.{settled_by, decide_read, decide_write, decide_kind, decide_judged}
use Rattle.model_rules.proofs.Passing.{passes}
use Rattle.model.specs.Arrays.{array_of, seen_of, answer_of, array_after}
use Rattle.model_history.specs.History.{Bus, World, world_of, stepped, seen_on}
use Rattle.model_sheet.specs.Sheet.{Judged, is_running}

-- ---- steps 1 to 3
pub running_is : (ph : Phase) → is_running ph ≡ true → (is_pending ph ≡ true) × (is_busy ph ≡ true) × (is_suspending ph ≡ false)
running_is Free e = absurd (unlike (sym e))
running_is EraseAwaited e = absurd (unlike (sym e))
running_is DataAwaited e = absurd (unlike (sym e))
running_is (Programming b) e = (refl, refl, refl)
running_is Erasing e = (refl, refl, refl)
running_is (Suspending n) e = absurd (unlike (sym e))
running_is Suspended e = absurd (unlike (sym e))

module _ (part : Part) (s : State) (p : Pins) where
  -- RP# low resets
  pub settle_reset : rp_low p ≡ true → settle_of part s p ≡ settled_as (reset_of s) (cut_of s.phase part s.address)
  unfolding settle_of
  settle_reset low = simp low

  module _ (up : rp_low p ≡ false) where
    -- with nothing running or suspended they leave all as it is
    pub settle_still : is_pending s.phase ≡ false → is_busy s.phase ≡ false → settle_of part s p ≡ settled_as s Nothing
    unfolding settle_of
    settle_still n b = simp (up, n, b, and_none (vpp_low part p))

    -- VPP low cuts
    pub settle_cut : is_pending s.phase ≡ true → vpp_low part p ≡ true
        → settle_of part s p ≡ settled_as (is_at_rest s Status (with_bits (without_bits s.status SR6) (cut_bits s.phase))) (cut_of s.phase part s.address)
    unfolding settle_of cut_by
    settle_cut n low = simp (up, n, low)

    module _ (high : vpp_low part p ≡ false) where
      -- a suspended erase stays as it is
      pub settle_held : is_busy s.phase ≡ false → settle_of part s p ≡ settled_as s Nothing
      unfolding settle_of
      settle_held b = simp (up, high, b)

      -- the last cycle ends the operation
      pub settle_end : is_running s.phase ≡ true → s.left ≡ 1
          → settle_of part s p ≡ settled_as (is_at_rest s s.mode (with_bits s.status SR7)) (finish_of s.phase part s.address)
      unfolding settle_of passed_of counted_off
      settle_end r l =
          let w = running_is s.phase r in
          let z : s.left - 1 ≡ 0 = omega arith in
          simp (up, high, w.1, w.2, eq-eqb (s.left - 1) 0 z)

      -- each before it counts one off
      pub settle_count : is_running s.phase ≡ true → 1 < s.left
          → settle_of part s p
          ≡ settled_as (record { mode = s.mode; status = s.status; phase = s.phase; left = s.left - 1; address = s.address; wear = s.wear }) Nothing
      unfolding settle_of passed_of counted_off
      settle_count r l =
          let w = running_is s.phase r in
          simp (up, high, w.1, w.2, ne_eqb (s.left - 1) 0 (λ z. omega arith))

      -- a suspend under way passes one cycle ..
      pub settle_suspending : (k : ℕ) → s.phase ≡ Suspending k → 1 < k → settle_of part s p ≡ settled_as (in_phase (Suspending (k - 1)) s.status s) Nothing
      unfolding settle_of passed_of suspend_passed
      settle_suspending k e l = simp (up, high, e, ne_eqb (k - 1) 0 (λ z. omega arith))

      -- .. and its last suspends the erase
      pub settle_suspends : (k : ℕ) → s.phase ≡ Suspending k → k ≡ 1
          → settle_of part s p ≡ settled_as (in_phase Suspended (with_bits s.status (SR7 + SR6)) s) Nothing
      unfolding settle_of passed_of suspend_passed
      settle_suspends k e l = let z : k - 1 ≡ 0 = omega arith in simp (up, high, e, eq-eqb (k - 1) 0 z)

-- ---- step 4, where refusals 1 to 6 are not against the cycle
module _ (d : Device) (v : World) (b : Bus) (judged : Judged d v b) where
  abbrev n : ℕ
  n = length v.bytes

  abbrev r : ℕ
  r = length b.residue

  abbrev first : Settled
  first = settle_of d.part v.state b.cycle.pins

  abbrev all : Decision
  all = decide_of d v.state b.cycle n r

  pub judged_proper : Proper d v.state
  unfolding judge_of
  judged_proper =
      proper_parts d v.state (no_head (no_tail (no_tail (given_no_row (early d v.state b.cycle n r) refl judged))))

  pub when_low : rp_low b.cycle.pins ≡ true → all ≡ settled_by Quiet first
  unfolding decide_judged
  when_low low = passes d v.state b.cycle n r judged ∙ if_true (rp_low b.cycle.pins) _ _ low

  module _ (up : rp_low b.cycle.pins ≡ false) (t : Settled) (e : first ≡ t) where
    by_kind : (k : Kind) → b.cycle.kind ≡ k → all ≡ decide_kind k d v.state b.cycle t
    unfolding decide_judged
    by_kind k q =
        passes d v.state b.cycle n r judged ∙ if_false (rp_low b.cycle.pins) _ _ up
        ∙ ap (λ (x : Settled). decide_kind b.cycle.kind d v.state b.cycle x) e
        ∙ ap (λ (x : Kind). decide_kind x d v.state b.cycle t) q

    pub when_idle : b.cycle.kind ≡ Idle → all ≡ settled_by Quiet t
    when_idle q = by_kind Idle q

    pub when_read : (m : Mode) → t.state.mode ≡ m → b.cycle.kind ≡ Read → all ≡ decide_read m d.part v.state b.cycle t
    when_read m h q = by_kind Read q ∙ ap (λ (x : Mode). decide_read x d.part v.state b.cycle t) h

    pub when_write : b.cycle.kind ≡ Write → is_refuse (action_of d.part t.state.phase (command_of b.cycle)) ≡ false
        → all ≡ decided_as Quiet (performed_of (action_of d.part t.state.phase (command_of b.cycle)) d b.cycle t.state) t.effect
    unfolding decide_write
    when_write q f = by_kind Write q ∙ if_false (is_refuse (action_of d.part t.state.phase (command_of b.cycle))) _ _ f

    pub when_refused : b.cycle.kind ≡ Write → is_refuse (action_of d.part t.state.phase (command_of b.cycle)) ≡ true → all ≡ refused_by 7 v.state
    unfolding decide_write
    when_refused q f = by_kind Write q ∙ if_true (is_refuse (action_of d.part t.state.phase (command_of b.cycle))) _ _ f

-- ---- a decided cycle: where it leads, and what is seen of it
module _ (d : Device) (v : World) (b : Bus) (reply : Reply) (t : State) (e : Effect)
    (is : decide_of d v.state b.cycle (length v.bytes) (length b.residue) ≡ decided_as reply t e) where
  pub leads : stepped d v b ≡ world_of t (array_of e d.part b.residue v.bytes)
  unfolding answer_of array_after
  leads = λ i. world_of (is i).state (array_of (is i).effect d.part b.residue v.bytes)

  pub shows : seen_on d v b ≡ seen_of reply (array_of e d.part b.residue v.bytes)
  unfolding answer_of array_after
  shows = λ i. seen_of (is i).reply (array_of (is i).effect d.part b.residue v.bytes)
