-- Recordings as numbers: there and back, what becomes of numbers that stand for no answer, and what a refusal gives.
use Rattle.std.specs.Prelude.{Option, Some, None}
use mathlib.Core.Path.{◌≡◌, refl, sym, ap, ◌∙◌}
use mathlib.Core.Bool.{Bool, true, false}
use mathlib.Core.List.{List, [], ◌∷◌}
use Prim.Native.Nat.{ℕ}
use lib.Dec.{eqb, ltb}
use lib.ListN.{length}
use borrow.Author.Tests.{ne_eqb}
use Rattle.common.proofs.Choice.{if_true, if_false, unlike}
use Rattle.common.proofs.Numbers.{given_no_row, no_head, no_tail}
use Rattle.units.specs.Units.{lent_in}
use Rattle.device.specs.declared.Device.{Device}
use Rattle.model_types.specs.declared.State.{State}
use Rattle.model_judge.specs.Judging.{early, judge_of}
use Rattle.recording.specs.declared.Noted.{Noted}
use Rattle.recording.specs.Recordings.{wrong_count, cuts_off, device_for, faulty}
use Rattle.recording.proofs.Judging.{count_fault, cut_fault, refused_fault}
use Rattle.recording_walk.specs.declared.Checked.{Checked}
use Rattle.recording_walk.specs.Lists.{start_number, checked_of, bytes_checked}
use Rattle.c_cycle.specs.declared.DeviceNumbers.{DeviceNumbers}
use Rattle.c_cycle.specs.declared.StateNumbers.{StateNumbers}
use Rattle.c_cycle.specs.declared.BusNumbers.{BusNumbers}
use Rattle.c_cycle.specs.Values.{flag_out, device_in, device_out, no_state, state_in, state_out, cycle_in, cycle_out}
use Rattle.c_cycle.specs.Answers.{state_back}
use Rattle.c_cycle.proofs.Border.{device_back, out_state, state_back_lem, cycle_back, state_same, no_kind_refused}
use Rattle.c_recording.specs.declared.RecordNumbers.{RecordNumbers}
use Rattle.c_recording.specs.Records.{heard_in, kind_seen, bus_seen, record_in, records_in, seen_heard, value_heard, record_out, records_out, checked_numbers, checked_out, checked_returned, array_checked}

-- an answer seen: out and in again, and its cycle keeps its kind
heard_back : (h : Option ℕ) → heard_in (seen_heard h) (value_heard h) ≡ h
unfolding heard_in
heard_back None = refl
heard_back (Some v) = refl

kind_kept : (h : Option ℕ) (k : ℕ) → kind_seen (seen_heard h) k ≡ k
unfolding kind_seen
kind_kept None k = refl
kind_kept (Some v) k = refl

pub record_back : (r : Noted) → record_in (record_out r) ≡ r
record_back r =
    let b : BusNumbers = cycle_out r.cycle in
    let h = heard_back r.heard in
    let k = kind_kept r.heard b.kind in
    let c : cycle_in (bus_seen (record_out r)) ≡ r.cycle =
    (λ i. cycle_in (record { kind = k i; rp = b.rp; oe = b.oe; wp = b.wp; «data» = b.data; vpp = b.vpp; address = b.address })) ∙ cycle_back r.cycle in
    λ i. record { cycle = c i; heard = h i; busy = r.busy }

pub records_back : (rs : List Noted) → records_in (records_out rs) ≡ rs
records_back [] = refl
records_back (r ∷ rs) =
    let e = record_back r in
    let t = records_back rs in
    λ i. e i ∷ t i

-- numbers that stand for no answer: the kind is none
kind_none : (seen k : ℕ) → ltb 1 seen ≡ true → ltb 2 (kind_seen seen k) ≡ true
unfolding kind_seen
kind_none seen k e = ap (λ (m : ℕ). ltb 2 m) (if_true (ltb 1 seen) 3 k e)

module _ (n : RecordNumbers) (e : ltb 1 n.seen ≡ true) (d : Device) (s : State) (bytes : List ℕ) where
  abbrev r : Noted
  r = record_in n

  never : judge_of (device_for d s r) s r.cycle (lent_in d.part.word (length bytes)) 0 ≡ 0 → ⊥
  unfolding judge_of
  never z =
      unlike
      (sym (no_kind_refused (bus_seen n) (kind_none n.seen n.bus.kind e) d.part)
      ∙ no_head (no_tail (no_tail (no_tail (given_no_row (early (device_for d s r) s r.cycle (lent_in d.part.word (length bytes)) 0) refl z)))))

  pub no_answer_faulty : faulty d s r bytes ≡ true
  no_answer_faulty = go (wrong_count d.part s r) refl (cuts_off d.part s r.cycle) refl
    where
      go : (a : Bool) → wrong_count d.part s r ≡ a → (b : Bool) → cuts_off d.part s r.cycle ≡ b → faulty d s r bytes ≡ true
      go true p b q = sym (count_fault d s r bytes p)
      go false p true q = sym (cut_fault d s r bytes p q)
      go false p false q =
          sym
          (refused_fault d s r bytes p q (device_for d s r) refl (lent_in d.part.word (length bytes)) refl
          (judge_of (device_for d s r) s r.cycle (lent_in d.part.word (length bytes)) 0) refl never)

-- a refusal: nothing was lent in vain
module _ (d : DeviceNumbers) (s : StateNumbers) (ns : List RecordNumbers) (promised bytes : List ℕ) where
  abbrev number : ℕ
  number = start_number (device_in d) (state_in s) (length bytes)

  pub recording_refused : (number ≡ 0 → ⊥)
      → (checked_returned d s ns promised bytes ≡ record { refusal = number; accepted = 0; at = 0; state = s }) × (array_checked d s ns bytes ≡ bytes)
  unfolding checked_returned array_checked checked_of bytes_checked
  recording_refused z =
      let e : eqb number 0 ≡ false = ne_eqb number 0 z in
      let t = state_same s in (
        ap (λ (c : Checked). checked_out s c) (if_false (eqb number 0) _ _ e) ∙ (λ i. record { refusal = number; accepted = 0; at = 0; state = t i }),
        if_false (eqb number 0) _ _ e,
      )

-- the state that goes back for a state's own numbers
given_back : (s t : State) → state_back (state_out s) t ≡ state_out t
unfolding state_back
given_back s t = if_false (no_state (state_out s)) (state_out s) (state_out t) (out_state s)

-- what is given for the numbers of typed values
pub recording_typed : (d : Device) (s : State) (rs : List Noted) (promised bytes : List ℕ)
    → (checked_returned (device_out d) (state_out s) (records_out rs) promised bytes ≡ checked_numbers (checked_of d s rs promised bytes))
    × (array_checked (device_out d) (state_out s) (records_out rs) bytes ≡ bytes_checked d s rs bytes)
unfolding checked_returned array_checked
recording_typed d s rs promised bytes =
    let e = device_back d in
    let t = state_back_lem s in
    let l = records_back rs in
    let c : Checked = checked_of d s rs promised bytes in
    let back = given_back s c.state in (
      (λ i. checked_out (state_out s) (checked_of (e i) (t i) (l i) promised bytes))
          ∙ (λ i. record { refusal = c.number; accepted = flag_out c.accepted; at = c.at; state = back i }),
      λ i. bytes_checked (e i) (t i) (l i) bytes,
    )
