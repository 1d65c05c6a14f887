-- A recording as a history: its world on units, its counts of erases, its lengths; and that the device's own times do not matter to it.
use mathlib.Core.Path.{◌≡◌, refl, sym, ap, ◌∙◌}
use mathlib.Core.List.{List, [], ◌∷◌}
use Prim.Native.Nat.{ℕ, suc, ◌+◌, ◌≤◌, ◌<◌, min}
use native.Mathlib.Omega.{arith}
use lib.ListN.{length}
use Rattle.std.specs.Prelude.{if◌then◌else◌}
use Rattle.units.specs.Units.{lent}
use Rattle.device.specs.declared.Device.{Device}
use Rattle.model_types.specs.declared.Effect.{Effect}
use Rattle.model_types.specs.declared.Wear.{Wear}
use Rattle.model_types.specs.Counts.{stop, count_of}
use Rattle.model.specs.Arrays.{answer_of, array_after}
use Rattle.model.specs.Begun.{begun_by}
use Rattle.model.proofs.Claims.{keeps_bytes, left_units, wear_after_lem}
use Rattle.model_history.specs.History.{World, world_of, stepped, total_of, erase_of}
use Rattle.model_history.proofs.Counting.{count_begun}
use Rattle.recording.specs.declared.Noted.{Noted}
use Rattle.recording.specs.Recordings.{device_for, answer_to, faulty}
use Rattle.recording.proofs.Judging.{none}
use Rattle.recording_walk.specs.Lists.{Held, onward, left_by, passed_by}
use Rattle.recording_claims.specs.Histories.{bus_of, units_of, worlds_by, begun_in, with_times}

-- one record is one cycle of a history
pub one_cycle : (d : Device) (v : Held) (r : Noted) → stepped (device_for d v.state r) (units_of d v) (bus_of r) ≡ units_of d (onward d v r)
unfolding answer_to
one_cycle d v r =
    let e : Device = device_for d v.state r in
    let us : List ℕ = lent d.part.word v.bytes in
    ap (world_of (answer_of e v.state r.cycle us []).state)
    (ap (λ (ts : List ℕ). array_after e v.state r.cycle us ts) (sym (none d.part.word)) ∙ sym (left_units e v.state r.cycle v.bytes []))

pub told : (d : Device) (v : Held) (rs : List Noted) → worlds_by d (units_of d v) rs ≡ units_of d (left_by d v rs)
told d v [] = refl
told d v (r ∷ rs) = ap (λ (w : World). worlds_by d w rs) (one_cycle d v r) ∙ told d (onward d v r) rs

-- the counts of erases
step_wear : (e : Device) (v : World) (r : Noted) (k : ℕ) → k < 7 → count_of v.state.wear k ≤ stop
    → count_of (stepped e v (bus_of r)).state.wear k ≡ min (count_of v.state.wear k + erase_of k (begun_by e v.state r.cycle (length v.bytes) 0)) stop
unfolding answer_of
step_wear e v r k h s =
    ap (λ (w : Wear). count_of w k) (wear_after_lem e v.state r.cycle (length v.bytes) 0)
    ∙ count_begun (begun_by e v.state r.cycle (length v.bytes) 0) v.state.wear k h s

counted : (d : Device) (v : World) (rs : List Noted) (k : ℕ) → k < 7 → count_of v.state.wear k ≤ stop
    → count_of (worlds_by d v rs).state.wear k ≡ min (count_of v.state.wear k + total_of (erase_of k) (begun_in d v rs)) stop
counted d v [] k h s = omega arith
counted d v (r ∷ rs) k h s =
    join (count_of v.state.wear k) (erase_of k x) (count_of w.state.wear k) (total_of (erase_of k) (begun_in d w rs)) (count_of (worlds_by d w rs).state.wear k) s
    (step_wear (device_for d v.state r) v r k h s) (counted d w rs k h)
  where
    x : Effect
    x = begun_by (device_for d v.state r) v.state r.cycle (length v.bytes) 0

    w : World
    w = stepped (device_for d v.state r) v (bus_of r)

    join : (a y m z u : ℕ) → a ≤ stop → m ≡ min (a + y) stop → (m ≤ stop → u ≡ min (m + z) stop) → u ≡ min (a + (y + z)) stop
    join a y m z u s p q = let r = q (omega arith) in omega arith

pub wear_told : (d : Device) (v : Held) (rs : List Noted) (k : ℕ) → k < 7 → count_of v.state.wear k ≤ stop
    → count_of (left_by d v rs).state.wear k ≡ min (count_of v.state.wear k + total_of (erase_of k) (begun_in d (units_of d v) rs)) stop
wear_told d v rs k h s = ap (λ (w : World). count_of w.state.wear k) (sym (told d v rs)) ∙ counted d (units_of d v) rs k h s

-- the lent bytes stay as many
pub left_length : (d : Device) (v : Held) (rs : List Noted) → length (left_by d v rs).bytes ≡ length v.bytes
left_length d v [] = refl
left_length d v (r ∷ rs) = left_length d (onward d v r) rs ∙ keeps_bytes (device_for d v.state r) v.state r.cycle v.bytes []

-- the device's own P and E do not matter
module _ (d : Device) (p e : ℕ) where
  onward_timeless : (v : Held) (r : Noted) → onward (with_times d p e) v r ≡ onward d v r
  unfolding answer_to
  onward_timeless v r = refl

  fault_timeless : (v : Held) (r : Noted) → faulty (with_times d p e) v.state r v.bytes ≡ faulty d v.state r v.bytes
  unfolding faulty answer_to
  fault_timeless v r = refl

  pub left_timeless : (v : Held) (rs : List Noted) → left_by (with_times d p e) v rs ≡ left_by d v rs
  left_timeless v [] = refl
  left_timeless v (r ∷ rs) = left_timeless (onward (with_times d p e) v r) rs ∙ ap (λ (u : Held). left_by d u rs) (onward_timeless v r)

  pub passed_timeless : (v : Held) (rs : List Noted) → passed_by (with_times d p e) v rs ≡ passed_by d v rs
  passed_timeless v [] = refl
  passed_timeless v (r ∷ rs) =
      let q : passed_by (with_times d p e) (onward (with_times d p e) v r) rs ≡ passed_by d (onward d v r) rs =
      passed_timeless (onward (with_times d p e) v r) rs ∙ ap (λ (u : Held). passed_by d u rs) (onward_timeless v r) in
      λ i. if fault_timeless v r i then 0 else suc (q i)
