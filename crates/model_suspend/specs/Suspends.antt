-- What is said of a suspend: which cycles ask for it and end it, and what S cycles after B0H leave and show.
use Rattle.std.specs.Prelude.{◌≡◌, Bool, true, ◌&&◌, List, [], ◌∷◌, ℕ, ◌+◌, ◌<◌, eqb, if◌then◌else◌}
use Rattle.device.specs.declared.Device.{Device}
use Rattle.model_types.specs.declared.Cycle.{Cycle}
use Rattle.model_types.specs.declared.State.{State}
use Rattle.model_types.specs.declared.Mode.TheVariants.{Array, Status}
use Rattle.model_types.specs.declared.Phase.TheVariants.{Erasing, Suspended}
use Rattle.model_types.specs.Kinds.{is_read, is_write}
use Rattle.model_types.specs.Status.{SR7, SR6, with_bits}
use Rattle.model_commands.specs.Commands.{command_of}
use Rattle.model.specs.declared.Seen.{Seen}
use Rattle.model.specs.declared.Seen.TheVariants.{NoData, Data}
use Rattle.model_history.specs.History.{Bus, World, accepts_all, effects_in, uncut}

-- a write of B0H, one of D0H, and one of FFH
abbrev pub is_suspend : Cycle → Bool
is_suspend c = is_write c.kind && eqb (command_of c) 0xB0

-- a write of D0H
abbrev pub is_resume : Cycle → Bool
is_resume c = is_write c.kind && eqb (command_of c) 0xD0

-- a write of FFH
abbrev pub is_opening : Cycle → Bool
is_opening c = is_write c.kind && eqb (command_of c) 0xFF

-- an erase is running, and the next cycle does not end it
abbrev pub Unfinished : State → Type 0
Unfinished s = (s.phase ≡ Erasing) × (1 < s.left)

-- cycles that are all accepted, and none of which cuts or resets what is running or suspended
abbrev pub Smooth : Device → World → List Bus → Type 0
Smooth d v bs = (accepts_all d v bs ≡ true) × (uncut (effects_in d v bs) ≡ true)

-- the status of a suspended erase: SR.7 and SR.6 set, the error bits as they were
abbrev pub held_status : ℕ → ℕ
held_status sr = with_bits sr (SR7 + SR6)

-- a cycle that shows a status: a read gives it, any other gives no data
abbrev pub shown_as : ℕ → Bus → Seen
shown_as sr b = if is_read b.cycle.kind then Data sr else NoData

-- .. of each of several cycles
abbrev pub shown_all : ℕ → List Bus → List Seen
shown_all sr [] = []
shown_all sr (b ∷ bs) = shown_as sr b ∷ shown_all sr bs

-- from v to u the same erase: one cycle less to go, and suspended; or, where the last cycle was D0H, running again. A read gives the
-- status, or the array where the last cycle was FFH (R-busy-2)
pub record Suspends (v u : World) (resumed opened : Bool) : Type 0 where
  pub mode : u.state.mode ≡ (if opened then Array else Status)
  pub phase : u.state.phase ≡ (if resumed then Erasing else Suspended)
  pub left : u.state.left + 1 ≡ v.state.left
  pub address : u.state.address ≡ v.state.address
  pub status : u.state.status ≡ (if resumed then v.state.status else held_status v.state.status)
  pub wear : u.state.wear ≡ v.state.wear
  pub bytes : u.bytes ≡ v.bytes
