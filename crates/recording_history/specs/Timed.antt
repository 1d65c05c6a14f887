-- Cycles on a device whose busy times differ from cycle to cycle: where they lead, and what may touch which byte. A recording is such a
-- history. Addresses x are byte addresses of the lent array in both widths.
use Rattle.std.specs.Prelude.{◌≡◌, true, List, [], ◌∷◌, ℕ, zero, suc, ◌<◌, length, take}
use Rattle.device.specs.declared.Device.{Device}
use Rattle.model_types.specs.declared.Effect.{Effect}
use Rattle.model_types.specs.declared.Effect.TheVariants.{Nothing, Program, Erase, CutProgram}
use Rattle.model_types.specs.declared.Kind.TheVariants.{Write}
use Rattle.model_levels.specs.Levels.{vpp_high, unlocked}
use Rattle.model.specs.Arrays.{Accepted}
use Rattle.model.specs.Begun.{operation_of}
use Rattle.model_history.specs.History.{Bus, World, world_of}
use Rattle.model_touch.specs.Touch.{by_rules, answer_on, after_cycle, effect_on, begun_on, asked_on, in_unit, in_block, is_on, Differs}
use Rattle.model_touch.specs.Touch.{TouchesOnly}
use Rattle.model_touch.specs.Touch.{OnlyClears}
use Rattle.recording.specs.declared.Noted.{Noted}
use Rattle.recording.specs.Recordings.{time_of}
use Rattle.recording_walk.specs.Lists.{Held, onward}
use Rattle.recording_claims.specs.Histories.{bus_of, with_times}

-- a cycle with the busy times of the device that it is made on
pub record TimedCycle : Type 0 where
  pub program : ℕ
  pub erase : ℕ
  pub bus : Bus

-- that device: its part and S are those of the one device
abbrev pub device_at : Device → TimedCycle → Device
device_at d t = with_times d t.program t.erase

-- the lent bytes and the state after one of them, after all, and before the one at a place
abbrev pub after_timed : Device → World → TimedCycle → World
after_timed d v t = after_cycle by_rules (device_at d t) v t.bus

-- .. after all of them
abbrev pub after_all_timed : Device → World → List TimedCycle → World
after_all_timed d v [] = v
after_all_timed d v (t ∷ ts) = after_all_timed d (after_timed d v t) ts

-- .. before the one at place i
abbrev pub before_timed : Device → World → List TimedCycle → ℕ → World
before_timed d v ts i = after_all_timed d v (take i ts)

-- the one at place i is t, counted from 0
abbrev pub TimedAt : List TimedCycle → ℕ → TimedCycle → Type 0
TimedAt [] i t = ⊥
TimedAt (u ∷ ts) zero t = u ≡ t
TimedAt (u ∷ ts) (suc i) t = TimedAt ts i t

-- what one does to the array, what it begins, and what it asks for at its own address
abbrev pub effect_in : Device → World → TimedCycle → Effect
effect_in d v t = effect_on (device_at d t) v t.bus

-- .. what it begins
abbrev pub operation_at : Device → World → TimedCycle → Effect
operation_at d v t = begun_on (device_at d t) v t.bus

-- .. what it asks for at its own address
abbrev pub asked_at : Device → World → TimedCycle → Effect
asked_at d v t = asked_on (device_at d t) v t.bus

-- in front of place i an operation that byte x is one of the bytes of was confirmed: an accepted write that begins what it asks for, with
-- VPP high
pub record ConfirmedIn (d : Device) (v : World) (ts : List TimedCycle) (i x : ℕ) : Type 0 where
  pub index : ℕ
  pub sooner : index < i
  pub timed : TimedCycle
  pub there : TimedAt ts index timed
  pub write : timed.bus.cycle.kind ≡ Write
  pub accepted : Accepted (answer_on by_rules (device_at d timed) (before_timed d v ts index) timed.bus)
  pub begins : operation_at d (before_timed d v ts index) timed ≡ asked_at d (before_timed d v ts index) timed
  pub own : is_on d.part (asked_at d (before_timed d v ts index) timed) x ≡ true
  pub supplied : vpp_high d.part timed.bus.cycle.pins ≡ true

-- it was made unlocked: by the levels of its own cycle
abbrev pub UnlockedIn : {d : Device} {v : World} {ts : List TimedCycle} {i x : ℕ} → ConfirmedIn d v ts i x → Type 0
UnlockedIn {d = d} k = unlocked d.part k.timed.bus.cycle.pins k.timed.bus.cycle.oe ≡ true

-- what may touch which byte (R-touch-1, R-touch-2)
pub record Touch (d : Device) (v : World) (ts : List TimedCycle) : Type 0 where
  -- A byte changes only where an operation on it, or on its block, was confirmed, and VPP was high at that confirm.
  pub byte_changes : (x : ℕ) → Differs v (after_all_timed d v ts) x → ConfirmedIn d v ts (length ts) x
  -- A byte of the boot block changes only where that confirm was made unlocked.
  pub boot_byte : (x : ℕ) (h : Differs v (after_all_timed d v ts) x) → in_block d.part 0 x ≡ true → UnlockedIn (byte_changes x h)
  -- A program that is not cut only clears bits, and touches one byte, or in word mode one word.
  pub program : (i : ℕ) (t : TimedCycle) → TimedAt ts i t → (a y : ℕ) → effect_in d (before_timed d v ts i) t ≡ Program a y
      → OnlyClears (before_timed d v ts i) (after_timed d (before_timed d v ts i) t)
      × TouchesOnly (in_unit d.part a) (before_timed d v ts i) (after_timed d (before_timed d v ts i) t)
  -- An erase touches its own block and nothing else, whether it is cut or not.
  pub erase : (i : ℕ) (t : TimedCycle) → TimedAt ts i t → (k : ℕ) → operation_of (effect_in d (before_timed d v ts i) t) ≡ Erase k
      → TouchesOnly (in_block d.part k) (before_timed d v ts i) (after_timed d (before_timed d v ts i) t)
  -- A program that is cut only clears bits too, and touches no more.
  pub cut_program : (i : ℕ) (t : TimedCycle) → TimedAt ts i t → (a y : ℕ) → effect_in d (before_timed d v ts i) t ≡ CutProgram a y
      → OnlyClears (before_timed d v ts i) (after_timed d (before_timed d v ts i) t)
      × TouchesOnly (in_unit d.part a) (before_timed d v ts i) (after_timed d (before_timed d v ts i) t)
  -- A cycle in which no operation ends and none is cut touches nothing.
  pub no_effect : (i : ℕ) (t : TimedCycle) → TimedAt ts i t → effect_in d (before_timed d v ts i) t ≡ Nothing
      → (after_timed d (before_timed d v ts i) t).bytes ≡ (before_timed d v ts i).bytes

-- a recording as such a history: a timed cycle for each record, with the record's own time
abbrev pub timed_of : Device → Held → List Noted → List TimedCycle
timed_of d v [] = []
timed_of d v (r ∷ rs) =
    record { program = time_of d.part v.state r; erase = time_of d.part v.state r; bus = bus_of r } ∷ timed_of d (onward d v r) rs

-- what is held, as a world
abbrev pub world_in : Held → World
world_in v = world_of v.state v.bytes
