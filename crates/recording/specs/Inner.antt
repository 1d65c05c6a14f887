-- How the code asks: what bars a start, and what a judged cycle shows before anything is stored. Not part of what a buyer must
-- believe.
use Rattle.std.specs.Prelude.{Bool, true, false, not, ◌&&◌, List, ℕ, eqb, if◌then◌else◌}
use Rattle.device.specs.declared.Part.{Part}
use Rattle.device.specs.declared.Device.{Device}
use Rattle.model_types.specs.declared.Cycle.{Cycle}
use Rattle.model_types.specs.declared.State.{State}
use Rattle.model_types.specs.declared.Phase.{Phase}
use Rattle.model_types.specs.declared.Phase.TheVariants.{Free, EraseAwaited, DataAwaited, Programming, Erasing, Suspending, Suspended}
use Rattle.model_types.specs.Kinds.{is_write}
use Rattle.model_levels.specs.Levels.{rp_low, locked}
use Rattle.model_actions.specs.Performed.{unsupplied}
use Rattle.model_commands.specs.Commands.{command_of}
use Rattle.model_rules.specs.Inner.{decide_judged}
use Rattle.model.specs.declared.Seen.{Seen}
use Rattle.model.specs.Arrays.{seen_of}
use Rattle.recording.specs.Recordings.{longest, count_of}

-- nothing bars the operation that a second write asks for
unfoldable pub unbarred : Part → State → Cycle → Bool
unbarred part s c = ((is_write c.kind && not (rp_low c.pins)) && not (unsupplied part c s)) && not (locked part c)

-- a second write asks for an operation
abbrev pub asks : Phase → Cycle → Bool
asks Free c = false
asks EraseAwaited c = eqb (command_of c) 0xD0
asks DataAwaited c = true
asks (Programming b) c = false
asks Erasing c = false
asks (Suspending n) c = false
asks Suspended c = false

-- the busy time of a record with this count, by whether it starts an operation
unfoldable pub time_by : Bool → ℕ → ℕ
time_by start n = if start then count_of n else longest

-- what is seen of a judged cycle on the array as it was before the cycle
unfoldable pub seen_judged : Device → State → Cycle → List ℕ → Seen
seen_judged d s c us = seen_of (decide_judged d s c).reply us
