-- What the table's rows and action numbers stand for, and what it is for an entry to follow its rule.
use Rattle.std.specs.Prelude.{Bool, true, false, ◌&&◌, List, [], ◌∷◌, ℕ, suc, ◌+◌, ◌*◌, ◌/◌, ◌%◌, eqb, ltb, length, get_or, if◌then◌else◌}
use Rattle.device.specs.Parts.{is_large}
use Rattle.device.specs.declared.Part.{Part}
use Rattle.model_types.specs.declared.Phase.{Phase}
use Rattle.model_types.specs.declared.Phase.TheVariants.{Free, EraseAwaited, DataAwaited, Programming, Erasing, Suspending, Suspended}
use Rattle.model_types.specs.declared.Action.{Action}
use Rattle.model_types.specs.declared.Action.TheVariants.{ToArray, ToIdentifier, ToStatus, Clear, AwaitErase, AwaitData, Confirm, Store}
use Rattle.model_types.specs.declared.Action.TheVariants.{WrongSecond, Suspend, Resume, Ignore, Refuse}
use Rattle.model_commands.specs.Commands.{action_of}
use Rattle.command_table.specs.Table.{command_table}

-- the rows: idle, erase awaited, program awaited, program busy, erase busy, suspending, suspended (R-table-1)
abbrev pub row_of : Phase → ℕ
row_of Free = 0
row_of EraseAwaited = 1
row_of DataAwaited = 2
row_of (Programming x) = 3
row_of Erasing = 4
row_of (Suspending n) = 5
row_of Suspended = 6

-- a state of each row
abbrev pub phase_at : ℕ → Phase
phase_at row =
    if eqb row 0 then Free
    else if eqb row 1 then EraseAwaited
    else if eqb row 2 then DataAwaited
    else if eqb row 3 then Programming 0
    else if eqb row 4 then Erasing
    else if eqb row 5 then Suspending 0
    else Suspended

-- 10H at idle: the table knows no device, the part decides when the action is performed (R-write-2)
unfoldable pub for_large : Part → Action
for_large part = if is_large part then AwaitData else Refuse

-- what an action number asks for
unfoldable pub action_for : Part → ℕ → Action
action_for part n =
    if eqb n 1 then Ignore
    else if eqb n 2 then Store
    else if eqb n 3 then WrongSecond
    else if eqb n 4 then ToArray
    else if eqb n 5 then ToIdentifier
    else if eqb n 6 then ToStatus
    else if eqb n 7 then Clear
    else if eqb n 8 then AwaitErase
    else if eqb n 9 then AwaitData
    else if eqb n 10 then for_large part
    else if eqb n 11 then Confirm
    else if eqb n 12 then Suspend
    else if eqb n 13 then Resume
    else Refuse

-- the number of an action
abbrev pub number_for : Action → ℕ
number_for ToArray = 4
number_for ToIdentifier = 5
number_for ToStatus = 6
number_for Clear = 7
number_for AwaitErase = 8
number_for AwaitData = 9
number_for Confirm = 11
number_for Store = 2
number_for WrongSecond = 3
number_for Suspend = 12
number_for Resume = 13
number_for Ignore = 1
number_for Refuse = 0

-- an entry by its line and column
unfoldable pub entry_in : ℕ → ℕ → ℕ
entry_in line column = get_or (get_or command_table line []) column 0

-- the entry of a byte in a row; there are seven rows
unfoldable pub entry_at : ℕ → ℕ → ℕ
entry_at row b = if ltb 6 row then 0 else entry_in (row * 16 + b / 16) (b % 16)

-- an entry at a line and a column asks of a part for what the command rules ask
unfoldable pub follows_for : Part → ℕ → ℕ → ℕ → Bool
follows_for part line column x =
    eqb (number_for (action_for part x)) (number_for (action_of part (phase_at (line / 16)) (line % 16 * 16 + column)))

-- a part of devices 5 to 8, and one of 1 to 4: no more is asked of a part
abbrev pub part_of : Bool → Part
part_of true = record { number = 5; word = false }
part_of false = record { number = 1; word = false }

-- the rule of an entry (R-table-1)
unfoldable pub follows : ℕ → ℕ → ℕ → Bool
follows line column x = follows_for (part_of true) line column x && follows_for (part_of false) line column x

-- a test passes at each element of a list, its place counted from i
abbrev pub each : {A : Type 0} → (ℕ → A → Bool) → ℕ → List A → Bool
each f i [] = true
each f i (x ∷ xs) = f i x && each f (suc i) xs

-- the rule of a line: it has 16 entries, and each follows its rule (R-table-1)
unfoldable pub line_follows : ℕ → List ℕ → Bool
line_follows line row = eqb (length row) 16 && each (follows line) 0 row
