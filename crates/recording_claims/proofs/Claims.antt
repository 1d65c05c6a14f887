-- What is claimed of recordings, in one place.
use mathlib.Core.Path.{◌≡◌, sym, ap, ◌∙◌}
use mathlib.Core.Bool.{true, false}
use mathlib.Core.List.{List}
use mathlib.Core.Logic.{◌↔◌}
use Prim.Native.Nat.{ℕ, ◌+◌, ◌≤◌, ◌<◌, min}
use lib.ListN.{length, take}
use Rattle.common.specs.Numbers.{Foremost}
use Rattle.common.proofs.Numbers.{given_foremost, foremost_given}
use Rattle.device.specs.declared.Device.{Device}
use Rattle.model_types.specs.declared.State.{State}
use Rattle.model_types.specs.Counts.{stop, count_of}
use Rattle.model_types.specs.Phases.{is_free}
use Rattle.model_states.specs.States.{improper}
use Rattle.model_history.specs.History.{Bus, world_after, effects_in, accepts_all, uncut, total_of, erase_of}
use Rattle.recording.specs.declared.Noted.{Noted}
use Rattle.recording.specs.Recordings.{longest, timed}
use Rattle.recording_walk.specs.Lists.{Held, held_of, left_by, passed_by, start_rows, start_number, checked_of, bytes_checked}
use Rattle.recording_claims.specs.Accepting.{Faultless, Startable, Accepts, FirstFault}
use Rattle.recording_claims.specs.Histories.{units_of, worlds_by, begun_in, with_times, buses_in, own_times}
use Rattle.recording_claims.specs.Made.{made_by, smoothly, records_of}
use Rattle.recording_claims.proofs.Replaying as replaying
use Rattle.recording_claims.proofs.Keeping as keeping
use Rattle.recording_claims.proofs.Single as single
use Rattle.recording_claims.proofs.Telling as telling
use Rattle.recording_claims.proofs.Firsts as firsts
use Rattle.recording_claims.proofs.Verdicts as verdicts

-- A recording is accepted exactly where the start is a device's proper idle state, each record is without fault in the world that the
-- records before it leave, the end is idle and the array is the one promised.
pub accepted_exactly : (d : Device) (s : State) (rs : List Noted) (promised bytes : List ℕ) → ((checked_of d s rs promised bytes).accepted ≡ true) ↔ Accepts d s rs promised bytes
accepted_exactly d s rs promised bytes = (verdicts.accepted_is d s rs promised bytes, verdicts.is_accepted d s rs promised bytes)

-- It is refused by m exactly where m's own condition holds (1 to 3, then 12) and that of no number before it does.
pub refused_exactly : (d : Device) (s : State) (rs : List Noted) (promised bytes : List ℕ) (m : ℕ) → (m ≡ 0 → ⊥)
    → ((checked_of d s rs promised bytes).number ≡ m) ↔ Foremost (start_rows d s (length bytes)) m
unfolding start_number
refused_exactly d s rs promised bytes m z = (
  λ e. given_foremost (start_rows d s (length bytes)) m z (sym (verdicts.number_is d s rs promised bytes) ∙ e),
  λ f. verdicts.number_is d s rs promised bytes ∙ foremost_given f,
)

-- It is refused by none exactly where the start is a device's proper idle state.
pub unrefused_exactly : (d : Device) (s : State) (rs : List Noted) (promised bytes : List ℕ) → ((checked_of d s rs promised bytes).number ≡ 0) ↔ Startable d s bytes
unrefused_exactly d s rs promised bytes = (
  λ e. verdicts.startable d s bytes (sym (verdicts.number_is d s rs promised bytes) ∙ e),
  λ z. verdicts.number_is d s rs promised bytes ∙ verdicts.unrefused d s bytes z,
)

-- The first fault is the first: the place given is i, inside the list, exactly where the records before record i are without fault and it
-- is not.
pub fault_exactly : (d : Device) (s : State) (rs : List Noted) (promised bytes : List ℕ) → Startable d s bytes → (i : ℕ)
    → (FirstFault d (held_of s bytes) rs i) ↔ (((checked_of d s rs promised bytes).at ≡ i) × (i < length rs))
fault_exactly d s rs promised bytes z = verdicts.fault_is d s rs promised bytes (verdicts.unrefused d s bytes z)

-- The place given is the list's length exactly where every record is without fault; the end alone decides then.
pub end_exactly : (d : Device) (s : State) (rs : List Noted) (promised bytes : List ℕ) → Startable d s bytes
    → (Faultless d (held_of s bytes) rs) ↔ ((checked_of d s rs promised bytes).at ≡ length rs)
end_exactly d s rs promised bytes z = verdicts.no_fault_is d s rs promised bytes (verdicts.unrefused d s bytes z)

-- Two first faults of a list are at one place.
pub first_once : (d : Device) (s : State) (rs : List Noted) (bytes : List ℕ) (i j : ℕ) → FirstFault d (held_of s bytes) rs i → FirstFault d (held_of s bytes) rs j → i ≡ j
first_once d s rs bytes i j f g = sym (firsts.first_is d (held_of s bytes) rs i f) ∙ firsts.first_is d (held_of s bytes) rs j g

-- The lent array ends as the records before the first at fault leave it ..
pub left_before_fault : (d : Device) (s : State) (rs : List Noted) (promised bytes : List ℕ) → Startable d s bytes
    → bytes_checked d s rs bytes ≡ (left_by d (held_of s bytes) (take (checked_of d s rs promised bytes).at rs)).bytes
left_before_fault d s rs promised bytes z = verdicts.left_is d s rs promised bytes (verdicts.unrefused d s bytes z)

-- .. where only the end is at fault, as all of them do ..
pub left_at_end : (d : Device) (s : State) (rs : List Noted) (bytes : List ℕ) → Startable d s bytes → Faultless d (held_of s bytes) rs
    → bytes_checked d s rs bytes ≡ (left_by d (held_of s bytes) rs).bytes
left_at_end d s rs bytes z f = verdicts.all_in d s rs bytes bytes (verdicts.unrefused d s bytes z) f

-- .. and refused, as it was.
pub refused_untouched : (d : Device) (s : State) (rs : List Noted) (promised bytes : List ℕ) → ((checked_of d s rs promised bytes).number ≡ 0 → ⊥) → bytes_checked d s rs bytes ≡ bytes
refused_untouched d s rs promised bytes z = verdicts.untouched d s rs promised bytes (λ e. z (verdicts.number_is d s rs promised bytes ∙ e))

-- An accepted recording leaves the promised array, and it is what the model's own cycles leave.
pub accepted_array : (d : Device) (s : State) (rs : List Noted) (promised bytes : List ℕ) → (checked_of d s rs promised bytes).accepted ≡ true
    → (bytes_checked d s rs bytes ≡ promised) × ((left_by d (held_of s bytes) rs).bytes ≡ promised)
accepted_array d s rs promised bytes h =
    let a = verdicts.accepted_is d s rs promised bytes h in
    (left_at_end d s rs bytes a.start a.faultless ∙ a.ends.array, a.ends.array)

-- A promised array of another length is unequal: with no record at fault the place given is the list's length, and no refusal.
pub other_length : (d : Device) (s : State) (rs : List Noted) (promised bytes : List ℕ) → Startable d s bytes → Faultless d (held_of s bytes) rs
    → (length promised ≡ length bytes → ⊥) → checked_of d s rs promised bytes ≡ record { number = 0; accepted = false; at = length rs; state = (left_by d (held_of s bytes) rs).state }
other_length d s rs promised bytes z f l = verdicts.only_end d s rs promised bytes (verdicts.unrefused d s bytes z) f (λ e. l (sym (ap (λ (xs : List ℕ). length xs) e.array) ∙ telling.left_length d (held_of s bytes) rs))

-- What the model records of its own cycles from idle to idle, with no refusal and no cut, is accepted: each cycle with the answer that it
-- gives, and at a start the busy count that it uses, on any device and at either width.
pub model_accepted : (d : Device) → d.program ≤ longest → d.erase ≤ longest → (s : State) (bs : List Bus) (bytes : List ℕ) → Startable d s bytes
    → smoothly d (held_of s bytes) bs ≡ true → is_free (made_by d (held_of s bytes) bs).state.phase ≡ true
    → (checked_of d s (records_of d (held_of s bytes) bs) (made_by d (held_of s bytes) bs).bytes bytes).accepted ≡ true
model_accepted d p e s bs bytes z h free =
    let v = held_of s bytes in
    let m = replaying.smooth_fine d p e v bs h in
    verdicts.is_accepted d s (records_of d v bs) (made_by d v bs).bytes bytes
    (record { start = z; faultless = m.0; ends = record { idle = ap (λ (w : Held). is_free w.state.phase) m.1 ∙ free; array = ap (λ (w : Held). w.bytes) m.1 } })

-- By the model's own rules: the records lead where a history leads that makes one cycle of each, on the device with the record's own time.
pub by_own_rules : (d : Device) (v : Held) (rs : List Noted) → worlds_by d (units_of d v) rs ≡ units_of d (left_by d v rs)
by_own_rules = telling.told

-- So the count of erases of a block at the end is the one at the start and the erases of it that the records begin, up to the stop.
pub wear_of_recording : (d : Device) (v : Held) (rs : List Noted) (k : ℕ) → k < 7 → count_of v.state.wear k ≤ stop
    → count_of (left_by d v rs).state.wear k ≡ min (count_of v.state.wear k + total_of (erase_of k) (begun_in d (units_of d v) rs)) stop
wear_of_recording = telling.wear_told

-- The device's own P and E matter to nothing in the list: not to the first fault ..
pub times_unread : (d : Device) (p e : ℕ) (v : Held) (rs : List Noted) → passed_by (with_times d p e) v rs ≡ passed_by d v rs
times_unread = telling.passed_timeless

-- .. and not to where the records lead.
pub times_unused : (d : Device) (p e : ℕ) (v : Held) (rs : List Noted) → left_by (with_times d p e) v rs ≡ left_by d v rs
times_unused = telling.left_timeless

-- From a start that is not refused the state stays proper on the device of the longest time, so no record of the list is at fault by 3.
pub proper_within : (d : Device) (s : State) (rs : List Noted) (bytes : List ℕ) → Startable d s bytes → improper (timed d longest) (left_by d (held_of s bytes) rs).state ≡ false
proper_within d s rs bytes z = keeping.stays_all d (held_of s bytes) rs (keeping.start_proper d s z.proper z.idle)

-- A recording without fault whose counts are the device's own P and E is a history of the device: it leads where the cycles lead, and the
-- model accepts each of them and none cuts an operation. So what is known of histories holds of it.
pub one_history : (d : Device) (s : State) (rs : List Noted) (bytes : List ℕ) → Startable d s bytes → Faultless d (held_of s bytes) rs → own_times d (held_of s bytes) rs ≡ true
    → (world_after d (units_of d (held_of s bytes)) (buses_in rs) ≡ units_of d (left_by d (held_of s bytes) rs)) × (accepts_all d (units_of d (held_of s bytes)) (buses_in rs) ≡ true)
    × (uncut (effects_in d (units_of d (held_of s bytes)) (buses_in rs)) ≡ true)
one_history d s rs bytes z = single.one_history d z.known (held_of s bytes) rs z.proper
