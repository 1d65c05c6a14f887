-- What the model records of smooth cycles is without fault, and leads where the cycles lead.
use mathlib.Core.Path.{◌≡◌, refl, sym, ap, subst, ◌∙◌}
use mathlib.Core.Bool.{Bool, true, false, not, ◌&&◌, ◌||◌}
use mathlib.Core.List.{List, [], ◌∷◌}
use Prim.Native.Nat.{ℕ, ◌≤◌}
use native.Mathlib.Omega.{arith}
use lib.Dec.{eqb, ltb}
use lib.ListN.{length, get_or}
use borrow.Author.Tests.{eq-eqb, le-ltb, eqb-false, not-true}
use Rattle.std.specs.Prelude.{if◌then◌else◌}
use Rattle.common.proofs.Choice.{if_true, if_false, and_left, and_right, or_left, or_right, unlike}
use Rattle.units.specs.Units.{units, lent, back}
use Rattle.device.specs.declared.Part.{Part}
use Rattle.device.specs.declared.Device.{Device}
use Rattle.device.specs.Parts.{unknown_part, unknown_device}
use Rattle.model_types.specs.declared.Cycle.{Cycle}
use Rattle.model_types.specs.declared.Decision.{Decision}
use Rattle.model_types.specs.declared.Effect.{Effect}
use Rattle.model_types.specs.declared.Effect.TheVariants.{Nothing, Program, Erase, CutProgram, CutErase}
use Rattle.model_types.specs.declared.Phase.{Phase}
use Rattle.model_types.specs.declared.Phase.TheVariants.{Free, EraseAwaited, DataAwaited, Programming, Erasing, Suspending, Suspended}
use Rattle.model_types.specs.declared.Reply.{Reply}
use Rattle.model_types.specs.declared.Reply.TheVariants.{Quiet, Gives, GivesArray, Refuses}
use Rattle.model_types.specs.declared.State.{State}
use Rattle.model_types.specs.Phases.{is_awaited, is_pending}
use Rattle.model_states.specs.States.{most_left}
use Rattle.model_operation.specs.Settling.{settle_of}
use Rattle.model_rules.specs.Cycles.{number_of, decide_of}
use Rattle.model_rules.proofs.Cases.{accepted}
use Rattle.model_rules.proofs.Facts.{Fine, fine}
use Rattle.model.specs.declared.Answer.{Answer}
use Rattle.model.specs.Arrays.{array_of, is_refusal, seen_of, array_after, answer_of, bytes_after}
use Rattle.model.proofs.Outcome.{outcome, accept_effect}
use Rattle.model_history.specs.History.{Bus, is_cut}
use Rattle.recording.specs.declared.Noted.{Noted}
use Rattle.recording.specs.Recordings.{starts, longest, outside, wrong_count, cuts_off, count_of, time_of, device_for, agrees, answer_to, faulty}
use Rattle.recording.proofs.Judging.{none}
use Rattle.recording_walk.specs.Lists.{Held, held_of, onward, left_by}
use Rattle.recording_claims.specs.Accepting.{Faultless}
use Rattle.recording_claims.specs.Made.{decided_on, answered_on, made_one, made_by, smoothly, heard_of, time_used, record_of, records_of}
use Rattle.recording_claims.proofs.Firsts.{none_faulty, both_fine}
use Rattle.recording_claims.proofs.Timing.{uncut_whole, starts_awaited, accepts_same, fine_same}

-- an effect that is no cut does not look at the residue
unread : (x : Effect) → is_cut x ≡ false → (part : Part) (rs ts us : List ℕ) → array_of x part rs us ≡ array_of x part ts us
unread Nothing h part rs ts us = refl
unread (Program a v) h part rs ts us = refl
unread (Erase k) h part rs ts us = refl
unread (CutProgram a v) h part rs ts us = absurd (unlike h)
unread (CutErase k) h part rs ts us = absurd (unlike h)

-- an answer agrees with itself as it is noted down
noted : (x : Reply) → is_refusal x ≡ false → (us : List ℕ) → agrees (seen_of x us) (heard_of (seen_of x us)) ≡ true
noted Quiet h us = refl
noted (Gives v) h us = eq-eqb v v refl
noted (GivesArray a) h us = eq-eqb (get_or us a 0) (get_or us a 0) refl
noted (Refuses m) h us = absurd (unlike h)

-- what is pending is not awaited
pub pending_unawaited : (ph : Phase) → is_pending ph ≡ true → is_awaited ph ≡ false
pending_unawaited Free p = refl
pending_unawaited EraseAwaited p = absurd (unlike (sym p))
pending_unawaited DataAwaited p = absurd (unlike (sym p))
pending_unawaited (Programming x) p = refl
pending_unawaited Erasing p = refl
pending_unawaited (Suspending n) p = refl
pending_unawaited Suspended p = refl

module _ (d : Device) (few : d.program ≤ longest) (less : d.erase ≤ longest) where
  within : (n : ℕ) → eqb n 0 ≡ false → n ≤ longest → outside n ≡ false
  unfolding outside
  within n z l = simp (z, le-ltb longest n l)

  most_long : (ph : Phase) → most_left d ph ≤ longest
  most_long Free = omega arith
  most_long EraseAwaited = omega arith
  most_long DataAwaited = omega arith
  most_long (Programming x) = few
  most_long Erasing = less
  most_long (Suspending n) = less
  most_long Suspended = less

  module _ (v : Held) (b : Bus) (answered : is_refusal (decided_on d v b).reply ≡ false) (uncut : is_cut (decided_on d v b).effect ≡ false) where
    abbrev part : Part
    part = d.part

    abbrev s : State
    s = v.state

    abbrev c : Cycle
    c = b.cycle

    abbrev us : List ℕ
    us = lent part.word v.bytes

    abbrev ts : List ℕ
    ts = units part.word b.residue

    abbrev r : Noted
    r = record_of d v b

    abbrev e : Device
    e = device_for d s r

    zero : number_of d s c (length us) (length ts) ≡ 0
    zero =
        outcome d s c (length us) (length ts) (λ (x : Decision). is_refusal x.reply ≡ false → number_of d s c (length us) (length ts) ≡ 0) (λ m z h q. absurd (unlike q)) (λ z f q. z)
        answered

    known : Fine d s c (length us) (length ts)
    known = fine d s c (length us) (length ts) zero

    whole : cuts_off part s c ≡ false
    whole =
        uncut_whole part s c
        (sym (ap is_cut (ap (λ (x : Decision). x.effect) (accepted d s c (length us) (length ts) zero) ∙ accept_effect d c (settle_of part s c.pins))) ∙ uncut)

    -- the count noted down at a start is one
    count_in : (ph : Phase) → s.phase ≡ ph → starts part s c ≡ true → outside (time_used d ph) ≡ false
    unfolding unknown_device
    count_in Free q h = absurd (unlike (sym h ∙ starts_awaited part s c (ap is_awaited q)))
    count_in EraseAwaited q h =
        let p = unknown_part part || eqb d.program 0 in
        let k = or_left ((p || eqb d.erase 0) || eqb d.suspend 0) (ltb 100 d.suspend) known.known in
        within d.erase (or_right p (eqb d.erase 0) (or_left (p || eqb d.erase 0) (eqb d.suspend 0) k)) less
    count_in DataAwaited q h =
        let p = unknown_part part || eqb d.program 0 in
        let k = or_left ((p || eqb d.erase 0) || eqb d.suspend 0) (ltb 100 d.suspend) known.known in
        within d.program (or_right (unknown_part part) (eqb d.program 0) (or_left p (eqb d.erase 0) (or_left (p || eqb d.erase 0) (eqb d.suspend 0) k))) few
    count_in (Programming x) q h = absurd (unlike (sym h ∙ starts_awaited part s c (ap is_awaited q)))
    count_in Erasing q h = absurd (unlike (sym h ∙ starts_awaited part s c (ap is_awaited q)))
    count_in (Suspending n) q h = absurd (unlike (sym h ∙ starts_awaited part s c (ap is_awaited q)))
    count_in Suspended q h = absurd (unlike (sym h ∙ starts_awaited part s c (ap is_awaited q)))

    abbrev time : ℕ
    time = time_of part s r

    time_start : starts part s c ≡ true → time ≡ time_used d s.phase
    unfolding time_of count_of
    time_start h = if_true (starts part s c) _ _ h ∙ if_false (outside (time_used d s.phase)) _ _ (count_in s.phase refl h)

    time_other : starts part s c ≡ false → time ≡ longest
    unfolding time_of
    time_other h = if_false (starts part s c) _ _ h

    some : time ≡ 0 → ⊥
    unfolding outside
    some z = go (starts part s c) refl
      where
        go : (t : Bool) → starts part s c ≡ t → ⊥
        go true h =
            eqb-false (time_used d s.phase) 0 (or_left (eqb (time_used d s.phase) 0) (ltb longest (time_used d s.phase)) (count_in s.phase refl h)) (sym (time_start h) ∙ z)
        go false h = let q : longest ≡ 0 = sym (time_other h) ∙ z in omega (arith, q)

    longer : is_pending s.phase ≡ true → most_left d s.phase ≤ time
    longer p = subst (λ (n : ℕ). most_left d s.phase ≤ n) (sym (time_other (starts_awaited part s c (pending_unawaited s.phase p)))) (most_long s.phase)

    -- the cycle is the same on the record's device, with no residue
    decide_same : decide_of e s c (length us) 0 ≡ decide_of d s c (length us) (length ts)
    decide_same =
        accepted e s c (length us) 0 (fine_same d time s c whole some longer (length us) (length ts) known) ∙ accepts_same d time s c whole time_start
        ∙ sym (accepted d s c (length us) (length ts) zero)

    array_same : array_after e s c us [] ≡ array_after d s c us ts
    unfolding array_after
    array_same =
        ap (λ (x : Decision). array_of x.effect part [] us) decide_same ∙ unread (decide_of d s c (length us) (length ts)).effect uncut part [] ts us

    answer_same : answer_to d s r v.bytes ≡ answered_on d v b
    unfolding answer_to answer_of
    answer_same = λ i. record { seen = seen_of (decide_same i).reply (array_same i); state = (decide_same i).state }

    abbrev laid : List ℕ → List ℕ
    laid zs = if is_refusal (decide_of e s c (length us) (length zs)).reply then v.bytes else back part.word (array_after e s c us zs)

    bytes_same : bytes_after e s c v.bytes [] ≡ bytes_after d s c v.bytes b.residue
    unfolding bytes_after
    bytes_same = ap laid (none part.word) ∙ (λ i. if is_refusal (decide_same i).reply then v.bytes else back part.word (array_same i))

    pub leads_same : onward d v r ≡ made_one d v b
    leads_same = λ i. held_of (answer_same i).state (bytes_same i)

    count_right : wrong_count part s r ≡ false
    unfolding wrong_count
    count_right = go (starts part s c) refl
      where
        go : (t : Bool) → starts part s c ≡ t → (starts part s c && outside (time_used d s.phase)) ≡ false
        go true h = simp (h, count_in s.phase refl h)
        go false h = simp h

    heard_right : agrees (answer_to d s r v.bytes).seen r.heard ≡ true
    unfolding answer_of
    heard_right =
        ap (λ (a : Answer). agrees a.seen r.heard) answer_same
        ∙ noted (decide_of d s c (length us) (length ts)).reply answered (array_after d s c us ts)

    pub record_fine : faulty d s r v.bytes ≡ false
    unfolding faulty
    record_fine = simp (count_right, whole, heard_right)

  -- the whole list
  pub smooth_fine : (v : Held) (bs : List Bus) → smoothly d v bs ≡ true → (Faultless d v (records_of d v bs)) × (left_by d v (records_of d v bs) ≡ made_by d v bs)
  smooth_fine v [] h = (none_faulty d v, refl)
  smooth_fine v (b ∷ bs) h = go (smooth_fine (made_one d v b) bs (and_right one (smoothly d (made_one d v b) bs) h))
    where
      one : Bool
      one = not (is_refusal (decided_on d v b).reply) && not (is_cut (decided_on d v b).effect)

      first : one ≡ true
      first = and_left one (smoothly d (made_one d v b) bs) h

      a : is_refusal (decided_on d v b).reply ≡ false
      a = not-true (is_refusal (decided_on d v b).reply) (and_left (not (is_refusal (decided_on d v b).reply)) (not (is_cut (decided_on d v b).effect)) first)

      u : is_cut (decided_on d v b).effect ≡ false
      u = not-true (is_cut (decided_on d v b).effect) (and_right (not (is_refusal (decided_on d v b).reply)) (not (is_cut (decided_on d v b).effect)) first)

      go : (Faultless d (made_one d v b) (records_of d (made_one d v b) bs)) × (left_by d (made_one d v b) (records_of d (made_one d v b) bs) ≡ made_by d (made_one d v b) bs)
          → (Faultless d v (records_of d v (b ∷ bs))) × (left_by d v (records_of d v (b ∷ bs)) ≡ made_by d v (b ∷ bs))
      go m = (
        both_fine d v (record_of d v b) (records_of d (made_one d v b) bs) (record_fine v b a u)
            (subst (λ (w : Held). Faultless d w (records_of d (made_one d v b) bs)) (sym (leads_same v b a u)) m.0),
        ap (λ (w : Held). left_by d w (records_of d (made_one d v b) bs)) (leads_same v b a u) ∙ m.1,
      )
