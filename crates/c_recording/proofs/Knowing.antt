-- A record that is known here comes to what the step of recordings comes to: its cycle's answer in numbers is that of the device with the
-- record's own busy time.
use mathlib.Core.Path.{◌≡◌, refl, sym, ap, ◌∙◌}
use mathlib.Core.Bool.{Bool, true, false}
use mathlib.Core.List.{List, []}
use Prim.Native.Nat.{ℕ, ◌≤◌}
use native.Mathlib.Omega.{arith}
use lib.ListN.{length}
use lib.Dec.{eqb, ltb, leb}
use borrow.Author.Tests.{eq-eqb, le-ltb}
use Rattle.std.specs.Prelude.{if◌then◌else◌}
use Rattle.common.proofs.Choice.{if_false, and_none, unlike}
use Rattle.units.specs.Units.{lent}
use Rattle.device.specs.declared.Device.{Device}
use Rattle.model_types.specs.declared.State.{State}
use Rattle.model_types.specs.Phases.{is_pending}
use Rattle.model_levels.specs.Levels.{rp_low, vpp_low}
use Rattle.model.specs.declared.Seen.{Seen}
use Rattle.model.specs.declared.Seen.TheVariants.{NoData, Data, Refused}
use Rattle.model.specs.declared.Answer.{Answer}
use Rattle.model.specs.Arrays.{answer_of, bytes_after}
use Rattle.recording.specs.declared.Noted.{Noted}
use Rattle.recording.specs.Recordings.{longest, wrong_count, cuts_off, time_of, agrees, answer_to, faulty, recorded_of, bytes_recorded}
use Rattle.recording.specs.Inner.{asks}
use Rattle.recording.proofs.Judging.{none}
use Rattle.recording.proofs.Starting.{starts_unasked}
use Rattle.c_cycle.specs.declared.DeviceNumbers.{DeviceNumbers}
use Rattle.c_cycle.specs.declared.StateNumbers.{StateNumbers}
use Rattle.c_cycle.specs.declared.AnswerNumbers.{AnswerNumbers}
use Rattle.c_cycle.specs.Values.{device_in, no_state, state_in, state_out}
use Rattle.c_cycle.specs.Answers.{state_back, seen_out, value_out, answer_out, cycled, array_cycled}
use Rattle.c_cycle.proofs.Border.{state_back_lem}
use Rattle.c_ordinary.specs.Ordinary.{timed_in, Ordinary}
use Rattle.c_ordinary.proofs.Sufficient.{fair_at}
use Rattle.c_recording.specs.declared.RecordNumbers.{RecordNumbers}
use Rattle.c_recording.specs.Records.{heard_in, kind_seen, bus_seen, record_in}
use Rattle.c_recording.specs.Known.{Usual}

-- what is seen, by its number
quiet_is : (x : Seen) → seen_out x ≡ 0 → x ≡ NoData
quiet_is NoData e = refl
quiet_is (Data v) e = absurd (omega (arith, e))
quiet_is (Refused m) e = absurd (omega (arith, e))

shown_is : (x : Seen) → seen_out x ≡ 1 → x ≡ Data (value_out x)
shown_is NoData e = absurd (omega (arith, e))
shown_is (Data v) e = refl
shown_is (Refused m) e = absurd (omega (arith, e))

-- the numbers of the device that a record's cycle is made on
abbrev pub timed_as : DeviceNumbers → ℕ → DeviceNumbers
timed_as d t = record { number = d.number; word = d.word; program = t; erase = t; suspend = d.suspend }

-- the times of a device, and those of a record
pub timed_as_lem : (d : DeviceNumbers) (t : ℕ) → eqb t 0 ≡ false → timed_in d ≡ true → timed_in (timed_as d t) ≡ true
unfolding timed_in
timed_as_lem d t z e = go (eqb d.program 0) (eqb d.erase 0) e
  where
    go : (a b : Bool) → (if a then false else if b then false else if eqb d.suspend 0 then false else leb d.suspend 100) ≡ true
        → (if eqb t 0 then false else if eqb t 0 then false else if eqb d.suspend 0 then false else leb d.suspend 100) ≡ true
    go true b f = absurd (unlike (sym f))
    go false true f = absurd (unlike (sym f))
    go false false f = simp (z, f)

-- a kind that is one where the answer seen is one
pub kind_of : (r : RecordNumbers) → r.seen ≤ 1 → kind_seen r.seen r.bus.kind ≡ r.bus.kind
unfolding kind_seen
kind_of r e = if_false (ltb 1 r.seen) 3 r.bus.kind (le-ltb 1 r.seen e)

-- a usual record's cycle is ordinary
pub ordinary : (d : DeviceNumbers) (r : RecordNumbers) (xs : List ℕ) → Usual d r xs → (t : ℕ) → eqb t 0 ≡ false → r.seen ≤ 1 → r.bus.kind ≤ 2
    → Ordinary (timed_as d t) (bus_seen r) (length xs)
ordinary d r xs u t z e k =
    record { fair = fair_at (timed_as d t) (bus_seen r) (length xs) (timed_as_lem d t z u.timed) u.level u.inside (omega (arith, k, kind_of r e)); up = u.up }

module _ (d : DeviceNumbers) (n : StateNumbers) (r : RecordNumbers) (xs : List ℕ) where
  abbrev D : Device
  D = device_in d

  abbrev S : State
  S = state_in n

  abbrev R : Noted
  R = record_in r

  -- where no operation is asked for, the time is the longest and no count is wrong
  pub time_longest : asks S.phase R.cycle ≡ false → longest ≡ time_of D.part S R
  unfolding time_of
  time_longest e = simp (sym (starts_unasked D.part S R.cycle e))

  pub counts_right : asks S.phase R.cycle ≡ false → wrong_count D.part S R ≡ false
  unfolding wrong_count
  counts_right e = simp (sym (starts_unasked D.part S R.cycle e))

  -- nothing is cut without an operation, nor where RP# is up and VPP not low
  pub uncut_free : is_pending S.phase ≡ false → cuts_off D.part S R.cycle ≡ false
  unfolding cuts_off
  uncut_free e = simp e

  pub uncut : rp_low R.cycle.pins ≡ false → vpp_low D.part R.cycle.pins ≡ false → cuts_off D.part S R.cycle ≡ false
  unfolding cuts_off
  uncut e f = simp (e, f, and_none (is_pending S.phase))

  module _ (time : ℕ) (is : time ≡ time_of D.part S R) (right : wrong_count D.part S R ≡ false) (whole : cuts_off D.part S R.cycle ≡ false) (there : no_state n ≡ false)
      (a : AnswerNumbers) (e : a ≡ cycled (timed_as d time) n (bus_seen r) xs []) where
    abbrev A : Answer
    A = answer_to D S R xs

    same : a ≡ answer_out n A
    unfolding cycled answer_to
    same = e ∙ (λ i. answer_out n (answer_of (device_in (timed_as d (is i))) S R.cycle (lent D.part.word xs) (none D.part.word i)))

    heard_quiet : a.seen ≡ 0 → r.seen ≡ 0 → agrees A.seen R.heard ≡ true
    unfolding heard_in
    heard_quiet s g =
        (λ i. agrees (quiet_is A.seen (sym (λ j. (same j).seen) ∙ s) i) (heard_in (g i) r.value))

    heard_shown : a.seen ≡ 1 → r.seen ≡ 1 → a.value ≡ r.value → agrees A.seen R.heard ≡ true
    unfolding heard_in
    heard_shown s g v =
        (λ i. agrees (shown_is A.seen (sym (λ j. (same j).seen) ∙ s) i) (heard_in (g i) r.value))
        ∙ eq-eqb (value_out A.seen) r.value (sym (λ j. (same j).value) ∙ v)

    left : state_in a.state ≡ A.state
    unfolding state_back
    left = ap (λ (x : AnswerNumbers). state_in x.state) same ∙ ap state_in (if_false (no_state n) n (state_out A.state) there) ∙ state_back_lem A.state

    module _ (heard : agrees A.seen R.heard ≡ true) where
      fine : faulty D S R xs ≡ false
      unfolding faulty
      fine = simp (right, whole, heard)

      pub passed_state : record { fault = false; state = state_in a.state } ≡ recorded_of D S R xs
      unfolding recorded_of
      passed_state = ap (λ (s : State). record { fault = false; state = s }) left ∙ sym (if_false (faulty D S R xs) _ _ fine)

      pub passed_bytes : (ys : List ℕ) → ys ≡ array_cycled (timed_as d time) n (bus_seen r) xs [] → ys ≡ bytes_recorded D S R xs
      unfolding bytes_recorded array_cycled
      passed_bytes ys p = p ∙ (λ i. bytes_after (device_in (timed_as d (is i))) S R.cycle xs []) ∙ sym (if_false (faulty D S R xs) _ _ fine)

    -- a cycle that answered no data, and one that answered what was seen
    pub quiet : a.seen ≡ 0 → r.seen ≡ 0 → (ys : List ℕ) → ys ≡ array_cycled (timed_as d time) n (bus_seen r) xs []
        → (record { fault = false; state = state_in a.state } ≡ recorded_of D S R xs) × (ys ≡ bytes_recorded D S R xs)
    quiet s g ys p = let h = heard_quiet s g in (passed_state h, passed_bytes h ys p)

    pub shown : a.seen ≡ 1 → r.seen ≡ 1 → a.value ≡ r.value → (ys : List ℕ) → ys ≡ array_cycled (timed_as d time) n (bus_seen r) xs []
        → (record { fault = false; state = state_in a.state } ≡ recorded_of D S R xs) × (ys ≡ bytes_recorded D S R xs)
    shown s g v ys p = let h = heard_shown s g v in (passed_state h, passed_bytes h ys p)
