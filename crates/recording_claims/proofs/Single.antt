-- A recording whose counts are the device's own is a history of the device.
use Rattle.std.specs.Prelude.{Option}
use mathlib.Core.Path.{◌≡◌, refl, sym, ap, ◌∙◌}
use mathlib.Core.Bool.{Bool, true, false, not, ◌||◌}
use mathlib.Core.List.{List, [], ◌∷◌}
use Prim.Native.Nat.{ℕ, ◌-◌}
use lib.Dec.{eqb}
use lib.ListN.{length}
use borrow.Author.Tests.{eq-eqb, eqb-true, not-false}
use Rattle.common.proofs.Choice.{if_ind, if_true, if_false, and_left, and_right, and_rest, or_left, or_right, unlike}
use Rattle.common.proofs.Numbers.{no_row_given}
use Rattle.common.specs.Numbers.NoRow.{end, past}
use Rattle.units.specs.Units.{lent}
use Rattle.device.specs.declared.Part.{Part}
use Rattle.device.specs.declared.Device.{Device}
use Rattle.device.specs.Parts.{unknown_device, size_of}
use Rattle.model_types.specs.declared.Cycle.{Cycle}
use Rattle.model_types.specs.declared.Decision.{Decision}
use Rattle.model_types.specs.declared.Phase.{Phase}
use Rattle.model_types.specs.declared.Phase.TheVariants.{Free, EraseAwaited, DataAwaited, Programming, Erasing, Suspending, Suspended}
use Rattle.model_types.specs.declared.Reply.{Reply}
use Rattle.model_types.specs.declared.Reply.TheVariants.{Quiet, Gives, GivesArray, Refuses}
use Rattle.model_types.specs.declared.Settled.{Settled}
use Rattle.model_types.specs.declared.State.{State}
use Rattle.model_states.specs.States.{improper}
use Rattle.model_levels.specs.Levels.{rp_low, vpp_low}
use Rattle.model_types.specs.Phases.{is_busy, is_suspending, suspend_left, is_pending}
use Rattle.model_operation.specs.Settling.{finish_of, counted_off, suspend_passed, passed_of, settle_of}
use Rattle.model_rules.specs.Cycles.{number_of, decide_of}
use Rattle.model_rules.proofs.Cases.{accepted}
use Rattle.model_rules.proofs.Facts.{Fine, fine}
use Rattle.model.specs.Arrays.{array_of, is_refusal, seen_of, array_after, answer_of}
use Rattle.model.proofs.Claims.{stays_proper}
use Rattle.model.proofs.Outcome.{outcome, accept_effect}
use Rattle.model_history.specs.History.{World, world_of, stepped, world_after, effects_in, accepts_all, is_cut, uncut}
use Rattle.recording.specs.declared.Noted.{Noted}
use Rattle.recording.specs.Recordings.{starts, outside, wrong_count, cuts_off, count_of, time_of, device_for, agrees, answer_to, faulty}
use Rattle.recording.proofs.Seeing.{settles_nothing}
use Rattle.recording_walk.specs.Lists.{Held, onward, left_by}
use Rattle.recording_claims.specs.Accepting.{Faultless}
use Rattle.recording_claims.specs.Histories.{bus_of, units_of, buses_in, own_times}
use Rattle.recording_claims.specs.Made.{time_used}
use Rattle.recording_claims.proofs.Firsts.{head_fine, tail_fine}
use Rattle.recording_claims.proofs.Timing.{accepts_same}
use Rattle.recording_claims.proofs.Telling.{one_cycle}

-- an answer that agrees is no refusal
answers : (x : Reply) (us : List ℕ) (h : Option ℕ) → agrees (seen_of x us) h ≡ true → is_refusal x ≡ false
answers Quiet us h e = refl
answers (Gives v) us h e = refl
answers (GivesArray a) us h e = refl
answers (Refuses m) us h e = absurd (unlike (sym e))

-- the end of an operation is no cut
finish_uncut : (ph : Phase) (part : Part) (a : ℕ) → is_cut (finish_of ph part a) ≡ false
finish_uncut Free part a = refl
finish_uncut EraseAwaited part a = refl
finish_uncut DataAwaited part a = refl
finish_uncut (Programming x) part a = refl
finish_uncut Erasing part a = refl
finish_uncut (Suspending n) part a = refl
finish_uncut Suspended part a = refl

busy_pending : (ph : Phase) → is_busy ph ≡ true → is_pending ph ≡ true
busy_pending Free b = absurd (unlike (sym b))
busy_pending EraseAwaited b = absurd (unlike (sym b))
busy_pending DataAwaited b = absurd (unlike (sym b))
busy_pending (Programming x) b = refl
busy_pending Erasing b = refl
busy_pending (Suspending n) b = refl
busy_pending Suspended b = absurd (unlike (sym b))

passed_uncut : (part : Part) (s : State) → is_cut (passed_of part s).effect ≡ false
unfolding passed_of suspend_passed counted_off
passed_uncut part s =
    if_ind Un (is_suspending s.phase) _ _ (λ h. if_ind Un (eqb (suspend_left s.phase - 1) 0) _ _ (λ l. refl) (λ l. refl))
    (λ h. if_ind Un (eqb (s.left - 1) 0) _ _ (λ l. finish_uncut s.phase part s.address) (λ l. refl))
  where
    Un : Settled → Type 0
    Un x = is_cut x.effect ≡ false

-- a cycle that cuts nothing has no cut for its effect
pub whole_uncut : (part : Part) (s : State) (c : Cycle) → cuts_off part s c ≡ false → is_cut (settle_of part s c.pins).effect ≡ false
unfolding settle_of cuts_off
whole_uncut part s c whole = go (is_busy s.phase) refl
  where
    go : (b : Bool) → is_busy s.phase ≡ b → is_cut (settle_of part s c.pins).effect ≡ false
    go false b = ap is_cut (settles_nothing part s c whole b)
    go true b =
        let p = busy_pending s.phase b in
        let h = and_rest (is_pending s.phase) (rp_low c.pins || vpp_low part c.pins) p whole in
        simp (or_left (rp_low c.pins) (vpp_low part c.pins) h, or_right (rp_low c.pins) (vpp_low part c.pins) h, b) (passed_uncut part s)

-- one record without fault, whose count is the device's own
module _ (d : Device) (known : unknown_device d ≡ false) (v : Held) (r : Noted) (sound : improper d v.state ≡ false) (fair : faulty d v.state r v.bytes ≡ false)
    (own : (not (starts d.part v.state r.cycle) || eqb r.busy (time_used d v.state.phase)) ≡ true) where
  abbrev part : Part
  part = d.part

  abbrev s : State
  s = v.state

  abbrev c : Cycle
  c = r.cycle

  abbrev us : List ℕ
  us = lent part.word v.bytes

  abbrev e : Device
  e = device_for d s r

  abbrev first : Bool
  first = wrong_count part s r || cuts_off part s c

  counted : wrong_count part s r ≡ false
  unfolding faulty
  counted = or_left (wrong_count part s r) (cuts_off part s c) (or_left first (not (agrees (answer_to d s r v.bytes).seen r.heard)) fair)

  whole : cuts_off part s c ≡ false
  unfolding faulty
  whole = or_right (wrong_count part s r) (cuts_off part s c) (or_left first (not (agrees (answer_to d s r v.bytes).seen r.heard)) fair)

  seen : agrees (answer_to d s r v.bytes).seen r.heard ≡ true
  unfolding faulty
  seen = not-false (agrees (answer_to d s r v.bytes).seen r.heard) (or_right first (not (agrees (answer_to d s r v.bytes).seen r.heard)) fair)

  answered : is_refusal (decide_of e s c (length us) 0).reply ≡ false
  unfolding answer_to answer_of
  answered = answers (decide_of e s c (length us) 0).reply (array_after e s c us []) r.heard seen

  zero : number_of e s c (length us) 0 ≡ 0
  zero = outcome e s c (length us) 0 (λ (x : Decision). is_refusal x.reply ≡ false → number_of e s c (length us) 0 ≡ 0) (λ m z h q. absurd (unlike q)) (λ z f q. z) answered

  used : starts part s c ≡ true → time_of part s r ≡ time_used d s.phase
  unfolding time_of count_of wrong_count
  used h =
      if_true (starts part s c) _ _ h ∙ if_false (outside r.busy) _ _ (and_rest (starts part s c) (outside r.busy) h counted)
      ∙ eqb-true r.busy (time_used d s.phase) (rw h at own)

  number : number_of d s c (length us) 0 ≡ 0
  unfolding number_of
  number =
      let f : Fine e s c (length us) 0 = fine e s c (length us) 0 zero in
      no_row_given
      (past known (past (ap not (eq-eqb (length us) (size_of part) f.sized)) (past sound (past f.levels (past f.inside (past f.enough (past f.command (past f.reading (past f.naming end)))))))))

  same : decide_of e s c (length us) 0 ≡ decide_of d s c (length us) 0
  same = accepted e s c (length us) 0 zero ∙ accepts_same d (time_of part s r) s c whole used ∙ sym (accepted d s c (length us) 0 number)

  pub taken : is_refusal (decide_of d s c (length us) 0).reply ≡ false
  taken = sym (ap (λ (x : Decision). is_refusal x.reply) same) ∙ answered

  pub left_whole : is_cut (decide_of d s c (length us) 0).effect ≡ false
  left_whole = ap (λ (x : Decision). is_cut x.effect) (accepted d s c (length us) 0 number) ∙ ap is_cut (accept_effect d c (settle_of part s c.pins)) ∙ whole_uncut part s c whole

  pub own_step : stepped d (units_of d v) (bus_of r) ≡ units_of d (onward d v r)
  unfolding answer_of array_after
  own_step = ap (λ (x : Decision). world_of x.state (array_of x.effect part [] us)) (sym same) ∙ one_cycle d v r

  pub sound_on : improper d (onward d v r).state ≡ false
  unfolding answer_to answer_of
  sound_on = ap (λ (x : Decision). improper d x.state) same ∙ stays_proper d s c us [] sound

pub one_history : (d : Device) → unknown_device d ≡ false → (v : Held) (rs : List Noted) → improper d v.state ≡ false → Faultless d v rs → own_times d v rs ≡ true
    → (world_after d (units_of d v) (buses_in rs) ≡ units_of d (left_by d v rs)) × (accepts_all d (units_of d v) (buses_in rs) ≡ true)
    × (uncut (effects_in d (units_of d v) (buses_in rs)) ≡ true)
one_history d k v [] p f o = (refl, refl, refl)
one_history d k v (r ∷ rs) p f o =
    let fair = head_fine d v r rs f in
    let first = not (starts d.part v.state r.cycle) || eqb r.busy (time_used d v.state.phase) in
    let own = and_left first (own_times d (onward d v r) rs) o in
    let step = own_step d k v r p fair own in
    let more = one_history d k (onward d v r) rs (sound_on d k v r p fair own) (tail_fine d v r rs f) (and_right first (own_times d (onward d v r) rs) o) in (
      ap (λ (w : World). world_after d w (buses_in rs)) step ∙ more.0,
      rw (taken d k v r p fair own) (ap (λ (w : World). accepts_all d w (buses_in rs)) step ∙ more.1),
      rw (left_whole d k v r p fair own) (ap (λ (w : World). uncut (effects_in d w (buses_in rs))) step ∙ more.2),
    )
