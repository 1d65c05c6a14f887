-- What comes of a write: what an action makes of the state.
use Rattle.std.specs.Prelude.{Bool, ◌||◌, ℕ, ◌+◌, if◌then◌else◌}
use Rattle.units.specs.Units.{carried}
use Rattle.device.specs.Parts.{block_of}
use Rattle.device.specs.declared.Part.{Part}
use Rattle.device.specs.declared.Device.{Device}
use Rattle.model_types.specs.declared.Mode.{Mode}
use Rattle.model_types.specs.declared.Mode.TheVariants.{Array, Status, Identifier}
use Rattle.model_types.specs.declared.Phase.{Phase}
use Rattle.model_types.specs.declared.Phase.TheVariants.{Free, EraseAwaited, DataAwaited, Programming, Erasing, Suspending, Suspended}
use Rattle.model_types.specs.declared.Action.{Action}
use Rattle.model_types.specs.declared.Action.TheVariants.{ToArray, ToIdentifier, ToStatus, Clear, AwaitErase, AwaitData, Confirm, Store}
use Rattle.model_types.specs.declared.Action.TheVariants.{WrongSecond, Suspend, Resume, Ignore, Refuse}
use Rattle.model_types.specs.declared.State.{State}
use Rattle.model_types.specs.declared.Wear.{Wear}
use Rattle.model_types.specs.declared.Cycle.{Cycle}
use Rattle.model_types.specs.Counts.{worn}
use Rattle.model_levels.specs.Levels.{vpp_low, locked}
use Rattle.model_types.specs.Status.{SR7, SR6, SR5, SR4, SR3, with_bits, without_bits, is_set}
use Rattle.model_states.specs.States.{is_at_rest, in_phase}

-- the data of a cycle: all 16 bits in word mode, in byte mode the low 8 (R-part-6)
unfoldable pub data_of : Part → Cycle → ℕ
data_of part c = carried part.word c.data

-- the state in another mode
abbrev pub in_mode : Mode → State → State
in_mode m s = record { mode = m; status = s.status; phase = s.phase; left = s.left; address = s.address; wear = s.wear }

-- the state with another status
abbrev pub with_status : ℕ → State → State
with_status sr s = record { mode = s.mode; status = sr; phase = s.phase; left = s.left; address = s.address; wear = s.wear }

-- VPP is low at this cycle, or SR.3 is still set (R-second-3, R-status-2)
unfoldable pub unsupplied : Part → Cycle → State → Bool
unsupplied part c s = vpp_low part c.pins || is_set s.status SR3

-- the counts after an operation starts at this cycle's address: an erase counts at its block, a program does not count (R-wear-1)
abbrev pub wear_by : Phase → Part → Cycle → Wear → Wear
wear_by Free part c w = w
wear_by EraseAwaited part c w = w
wear_by DataAwaited part c w = w
wear_by (Programming b) part c w = w
wear_by Erasing part c w = worn w (block_of part c.address)
wear_by (Suspending n) part c w = w
wear_by Suspended part c w = w

-- a confirm or data: unsupplied sets SR.3 and the operation's error bit, locked the error bit (where both apply, the bits are
-- those of the first); otherwise the operation starts at this cycle's address with its busy time to go and SR.7 clear,
-- and an erase is counted (R-second-2, R-second-3, R-second-4)
unfoldable pub started_of : Part → Cycle → State → Phase → ℕ → ℕ → State
started_of part c s ph time bit =
    if unsupplied part c s then is_at_rest s s.mode (with_bits (with_bits s.status SR3) bit)
    else if locked part c then is_at_rest s s.mode (with_bits s.status bit)
    else record {
      mode = s.mode;
      status = without_bits s.status SR7;
      phase = ph;
      left = time;
      address = c.address;
      wear = wear_by ph part c s.wear;
    }

-- what an action makes of the state; a suspend takes S cycles, of which this is none (R-write-1, R-second-1, R-busy-2, R-suspended-1)
abbrev pub performed_of : Action → Device → Cycle → State → State
performed_of ToArray d c s = in_mode Array s
performed_of ToIdentifier d c s = in_mode Identifier s
performed_of ToStatus d c s = in_mode Status s
performed_of Clear d c s = with_status (without_bits s.status (SR5 + SR4 + SR3)) s
performed_of AwaitErase d c s = in_phase EraseAwaited s.status s
performed_of AwaitData d c s = in_phase DataAwaited s.status s
performed_of Confirm d c s = started_of d.part c s Erasing d.erase SR5
performed_of Store d c s = started_of d.part c s (Programming (data_of d.part c)) d.program SR4
performed_of WrongSecond d c s = is_at_rest s s.mode (with_bits s.status (SR5 + SR4))
performed_of Suspend d c s = in_phase (Suspending d.suspend) s.status s
performed_of Resume d c s = in_phase Erasing (without_bits s.status (SR7 + SR6)) s
performed_of Ignore d c s = s
performed_of Refuse d c s = s
