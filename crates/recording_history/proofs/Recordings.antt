-- A recording is a history whose busy times differ from cycle to cycle.
use mathlib.Core.Path.{◌≡◌, refl, ap, ◌∙◌}
use mathlib.Core.List.{List, [], ◌∷◌, ◌++◌}
use Prim.Native.Nat.{ℕ, zero, suc}
use lib.ListN.{length, take}
use Rattle.units.specs.Units.{lent}
use Rattle.device.specs.declared.Device.{Device}
use Rattle.model_history.specs.History.{World, world_of}
use Rattle.model.specs.Arrays.{answer_of, bytes_after}
use Rattle.model_touch.specs.Touch.{by_rules, after_cycle}
use Rattle.recording.specs.declared.Noted.{Noted}
use Rattle.recording.specs.Recordings.{device_for, answer_to}
use Rattle.recording.proofs.Judging.{none}
use Rattle.recording_walk.specs.Lists.{Held, onward, left_by}
use Rattle.recording_claims.specs.Histories.{bus_of}
use Rattle.recording_history.specs.Timed.{TimedCycle, after_all_timed, timed_of, world_in}

one_timed : (d : Device) (v : Held) (r : Noted) → after_cycle by_rules (device_for d v.state r) (world_in v) (bus_of r) ≡ world_in (onward d v r)
unfolding answer_to
one_timed d v r =
    ap (λ (ts : List ℕ). world_of (answer_of (device_for d v.state r) v.state r.cycle (lent d.part.word v.bytes) ts).state (bytes_after (device_for d v.state r) v.state r.cycle v.bytes []))
    (none d.part.word)

-- it leads where its records lead
pub leads : (d : Device) (v : Held) (rs : List Noted) → after_all_timed d (world_in v) (timed_of d v rs) ≡ world_in (left_by d v rs)
leads d v [] = refl
leads d v (r ∷ rs) = ap (λ (w : World). after_all_timed d w (timed_of d (onward d v r) rs)) (one_timed d v r) ∙ leads d (onward d v r) rs

-- a timed cycle for each record
pub timed_length : (d : Device) (v : Held) (rs : List Noted) → length (timed_of d v rs) ≡ length rs
timed_length d v [] = refl
timed_length d v (r ∷ rs) = ap suc (timed_length d (onward d v r) rs)

-- the first timed cycles are those of the first records
pub timed_before : (d : Device) (v : Held) (rs : List Noted) (i : ℕ) → take i (timed_of d v rs) ≡ timed_of d v (take i rs)
timed_before d v rs zero = refl
timed_before d v [] (suc i) = refl
timed_before d v (r ∷ rs) (suc i) =
    ap (λ (ts : List TimedCycle). timed_of d v (r ∷ []) ++ ts) (timed_before d (onward d v r) rs i)
