-- Operations over their life: which one a cycle begins, which is pending in a state, which one an effect ends or cuts.
use Rattle.std.specs.Prelude.{not, ◌&&◌, ℕ, eqb, if◌then◌else◌}
use Rattle.device.specs.declared.Part.{Part}
use Rattle.device.specs.declared.Device.{Device}
use Rattle.device.specs.Parts.{block_of}
use Rattle.model_types.specs.declared.Phase.{Phase}
use Rattle.model_types.specs.declared.Phase.TheVariants.{Free, EraseAwaited, DataAwaited, Programming, Erasing, Suspending, Suspended}
use Rattle.model_types.specs.declared.Effect.{Effect}
use Rattle.model_types.specs.declared.Effect.TheVariants.{Nothing, Program, Erase, CutProgram, CutErase}
use Rattle.model_types.specs.declared.State.{State}
use Rattle.model_types.specs.declared.Wear.{Wear}
use Rattle.model_types.specs.declared.Cycle.{Cycle}
use Rattle.model_types.specs.Counts.{worn_by}
use Rattle.model_types.specs.Kinds.{is_write}
use Rattle.model_levels.specs.Levels.{rp_low, locked}
use Rattle.model_types.specs.Phases.{is_awaited}
use Rattle.model_actions.specs.Performed.{unsupplied, data_of}
use Rattle.model_commands.specs.Commands.{command_of}
use Rattle.model_rules.specs.Cycles.{number_of}

-- the operation that an effect ends or cuts; an uncut effect is its own operation
abbrev pub operation_of : Effect → Effect
operation_of Nothing = Nothing
operation_of (Program a b) = Program a b
operation_of (Erase k) = Erase k
operation_of (CutProgram a b) = Program a b
operation_of (CutErase k) = Erase k

-- the operation that is running, being suspended or suspended
abbrev pub pending_in : Phase → Part → ℕ → Effect
pending_in Free part a = Nothing
pending_in EraseAwaited part a = Nothing
pending_in DataAwaited part a = Nothing
pending_in (Programming b) part a = Program a b
pending_in Erasing part a = Erase (block_of part a)
pending_in (Suspending n) part a = Erase (block_of part a)
pending_in Suspended part a = Erase (block_of part a)

-- the same of a state
abbrev pub pending_of : Part → State → Effect
pending_of part s = pending_in s.phase part s.address

-- what a second write asks for at its own address: after 20H an erase by D0H, after 40H or 10H a program of whatever data
abbrev pub asked_by : Phase → Part → Cycle → Effect
asked_by Free part c = Nothing
asked_by EraseAwaited part c = if eqb (command_of c) 0xD0 then Erase (block_of part c.address) else Nothing
asked_by DataAwaited part c = Program c.address (data_of part c)
asked_by (Programming x) part c = Nothing
asked_by Erasing part c = Nothing
asked_by (Suspending n) part c = Nothing
asked_by Suspended part c = Nothing

-- a write with RP# up that is neither unsupplied nor locked starts what it asks for (R-second-3, R-second-4)
unfoldable pub starts_of : Part → State → Cycle → Effect
starts_of part s c =
    if ((is_write c.kind && not (rp_low c.pins)) && not (unsupplied part c s)) && not (locked part c)
    then asked_by s.phase part c
    else Nothing

-- the operation that a cycle begins; a refused cycle begins none (R-demand-3)
unfoldable pub begun_by : Device → State → Cycle → ℕ → ℕ → Effect
begun_by d s c array residue = if eqb (number_of d s c array residue) 0 then starts_of d.part s c else Nothing

-- the same told by the states before and after: a second write was awaited, and this is pending now
abbrev pub begun_from : Part → State → State → Effect
begun_from part s t = if is_awaited s.phase then pending_of part t else Nothing

-- the counts of erases after a cycle: one more at the block of an erase that the cycle begins (R-wear-1)
abbrev pub wear_after : Device → State → Cycle → ℕ → ℕ → Wear
wear_after d s c array residue = worn_by (begun_by d s c array residue) s.wear
