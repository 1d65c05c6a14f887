-- Device states: what makes one proper, and the states that the rules name.
use Rattle.std.specs.Prelude.{Bool, true, false, not, ◌&&◌, ◌||◌, ℕ, ◌/◌, ◌%◌, eqb, ltb, leb, if◌then◌else◌}
use Rattle.device.specs.Parts.{size_of}
use Rattle.device.specs.declared.Device.{Device}
use Rattle.model_types.specs.declared.Mode.{Mode}
use Rattle.model_types.specs.declared.Mode.TheVariants.{Array, Status, Identifier}
use Rattle.model_types.specs.declared.Phase.{Phase}
use Rattle.model_types.specs.declared.Phase.TheVariants.{Free, EraseAwaited, DataAwaited, Programming, Erasing, Suspending}
use Rattle.model_types.specs.declared.Phase.TheVariants.{Suspended}
use Rattle.model_types.specs.declared.State.{State}
use Rattle.model_types.specs.Phases.{is_awaited, is_busy, is_suspending, suspend_left, is_suspended, is_pending}
use Rattle.model_types.specs.Status.{SR7, SR6, SR3}
use Rattle.model_types.specs.Counts.{unworn}

-- a read gives the array's byte
abbrev pub is_array : Mode → Bool
is_array Array = true
is_array Status = false
is_array Identifier = false

-- a read gives the status
abbrev pub is_status : Mode → Bool
is_status Array = false
is_status Status = true
is_status Identifier = false

-- a read gives an identifier
abbrev pub is_identifier : Mode → Bool
is_identifier Array = false
is_identifier Status = false
is_identifier Identifier = true

-- the most cycles that an operation can have to go: P for a program, E for an erase, none without one
abbrev pub most_left : Device → Phase → ℕ
most_left d Free = 0
most_left d EraseAwaited = 0
most_left d DataAwaited = 0
most_left d (Programming b) = d.program
most_left d Erasing = d.erase
most_left d (Suspending n) = d.erase
most_left d Suspended = d.erase

-- mode status while awaiting or busy; array or status while suspended (R-proper-1)
abbrev pub proper_mode : Phase → Mode → Bool
proper_mode ph m =
    if is_awaited ph || is_busy ph then is_status m
    else if is_suspended ph then is_array m || is_status m
    else true

-- SR.7, the top bit, is clear exactly when busy (R-proper-1)
abbrev pub proper_ready : Phase → ℕ → Bool
proper_ready ph sr = eqb (sr / SR7) (if is_busy ph then 0 else 1)

-- SR.6 is set exactly when suspended (R-proper-1)
abbrev pub proper_held : Phase → ℕ → Bool
proper_held ph sr = eqb (sr / SR6 % 2) (if is_suspended ph then 1 else 0)

-- SR.2-0, all that is below SR.3, are zero (R-proper-1)
abbrev pub proper_low : ℕ → Bool
proper_low sr = eqb (sr % SR3) 0

-- cycles to go: from 1 to P or E with an operation running or suspended, zero without one (R-proper-1)
abbrev pub proper_left : Device → Phase → ℕ → Bool
proper_left d ph left = if is_pending ph then leb 1 left && leb left (most_left d ph) else eqb left 0

-- cycles of a suspend to go: from 1 to S while it is under way, none in every other phase (R-proper-1)
abbrev pub proper_suspend : Device → Phase → Bool
proper_suspend d ph = if is_suspending ph then leb 1 (suspend_left ph) && leb (suspend_left ph) d.suspend else true

-- the operation's address: inside the array, zero without one (R-proper-1)
abbrev pub proper_address : Device → Phase → ℕ → Bool
proper_address d ph a = if is_pending ph then ltb a (size_of d.part) else eqb a 0

-- a proper state (R-proper-1)
unfoldable pub proper : Device → State → Bool
proper d s =
    proper_mode s.phase s.mode
    && proper_ready s.phase s.status
    && proper_held s.phase s.status
    && proper_low s.status
    && proper_left d s.phase s.left
    && proper_suspend d s.phase
    && proper_address d s.phase s.address

-- refusal 3: the state is not proper (R-number-3)
unfoldable pub improper : Device → State → Bool
improper d s = not (proper d s)

-- a state come to rest: nothing awaited, running or suspended, with a mode and a status; the counts of erases stay
abbrev pub is_at_rest : State → Mode → ℕ → State
is_at_rest s m sr = record { mode = m; status = sr; phase = Free; left = 0; address = 0; wear = s.wear }

-- a state in another phase and status, mode read status; cycles to go, address and counts of erases stay
abbrev pub in_phase : Phase → ℕ → State → State
in_phase ph sr s = record { mode = Status; status = sr; phase = ph; left = s.left; address = s.address; wear = s.wear }

-- a fresh device: read array, 80H, nothing carried, no erase begun (R-status-3)
abbrev pub fresh_state : State
fresh_state = record { mode = Array; status = SR7; phase = Free; left = 0; address = 0; wear = unworn }

-- what RP# low makes of a state (R-cycle-3)
abbrev pub reset_of : State → State
reset_of s = is_at_rest s Array SR7
