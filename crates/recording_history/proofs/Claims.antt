-- What is claimed of a recording as a history, in one place: its busy counts may differ from start to start.
use mathlib.Core.Path.{◌≡◌, sym, ap, subst, ◌∙◌}
use mathlib.Core.Bool.{true, false}
use mathlib.Core.List.{List}
use Prim.Native.Nat.{ℕ}
use lib.ListN.{length, take, get_or}
use Rattle.common.specs.Lists.{Bytes}
use Rattle.device.specs.declared.Device.{Device}
use Rattle.model_types.specs.declared.State.{State}
use Rattle.model_types.specs.Phases.{is_pending}
use Rattle.model_history.specs.History.{World, world_of}
use Rattle.model_touch.specs.Touch.{in_block, byte_in, Differs}
use Rattle.recording.specs.declared.Noted.{Noted}
use Rattle.recording_walk.specs.Lists.{Held, held_of, left_by}
use Rattle.recording_claims.specs.Accepting.{Accepts}
use Rattle.recording_history.specs.Timed.{TimedCycle, after_all_timed, before_timed, ConfirmedIn, UnlockedIn, Touch, timed_of, world_in}
use Rattle.recording_history.proofs.Touching as touching
use Rattle.recording_history.proofs.Recordings as recordings

-- What may touch which byte holds of any cycles on a device whose busy times differ from cycle to cycle, from any start with no operation
-- running, being suspended or suspended. That the array holds bytes is what a lent slice is.
pub touch_timed : (d : Device) (v : World) (ts : List TimedCycle) → is_pending v.state.phase ≡ false → Bytes v.bytes → Touch d v ts
touch_timed d v ts idle bytes = touching.touch d v ts idle bytes

-- A byte that differs at a point of the list was confirmed by one of the cycles in front of it.
pub confirm_timed : (d : Device) (v : World) (ts : List TimedCycle) → is_pending v.state.phase ≡ false → Bytes v.bytes
    → (i x : ℕ) → Differs v (before_timed d v ts i) x → ConfirmedIn d v ts i x
confirm_timed d v ts idle bytes = touching.changed d v ts idle bytes

-- Every confirm on a boot byte was made unlocked.
pub boot_timed : {d : Device} {v : World} {ts : List TimedCycle} {i x : ℕ} (k : ConfirmedIn d v ts i x) → in_block d.part 0 x ≡ true → UnlockedIn k
boot_timed k o = touching.boot_confirm k o

-- A recording is such a history: a cycle for each record, on the device of the record's own time. It leads where its records lead, at every
-- place of the list.
pub recording_leads : (d : Device) (v : Held) (rs : List Noted) → after_all_timed d (world_in v) (timed_of d v rs) ≡ world_in (left_by d v rs)
recording_leads = recordings.leads

pub recording_before : (d : Device) (v : Held) (rs : List Noted) (i : ℕ) → before_timed d (world_in v) (timed_of d v rs) i ≡ world_in (left_by d v (take i rs))
recording_before d v rs i = ap (λ (ts : List TimedCycle). after_all_timed d (world_in v) ts) (recordings.timed_before d v rs i) ∙ recordings.leads d v (take i rs)

-- So the statement holds of every recording, whatever its counts.
pub recording_touch : (d : Device) (s : State) (rs : List Noted) (bytes : List ℕ) → is_pending s.phase ≡ false → Bytes bytes
    → Touch d (world_of s bytes) (timed_of d (held_of s bytes) rs)
recording_touch d s rs bytes idle b = touching.touch d (world_of s bytes) (timed_of d (held_of s bytes) rs) idle b

-- And of an accepted one: a byte of the promised array differs from the byte at the start only where an operation on it, or on its block,
-- was confirmed by one of the records, with VPP high.
pub promised_touch : (d : Device) (s : State) (rs : List Noted) (promised bytes : List ℕ) → Accepts d s rs promised bytes → is_pending s.phase ≡ false → Bytes bytes
    → (x : ℕ) → (get_or promised x 0 ≡ get_or bytes x 0 → ⊥) → ConfirmedIn d (world_of s bytes) (timed_of d (held_of s bytes) rs) (length rs) x
promised_touch d s rs promised bytes a idle b x h =
    subst (λ (n : ℕ). ConfirmedIn d (world_of s bytes) (timed_of d (held_of s bytes) rs) n x) (recordings.timed_length d (held_of s bytes) rs)
    ((touching.touch d (world_of s bytes) (timed_of d (held_of s bytes) rs) idle b).byte_changes x
    (λ q. h (ap (λ (ys : List ℕ). get_or ys x 0) (sym a.ends.array) ∙ sym (ap (λ (w : World). byte_in w x) (recordings.leads d (held_of s bytes) rs)) ∙ q)))
