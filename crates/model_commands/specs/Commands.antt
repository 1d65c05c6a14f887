-- What a write asks for.
use Rattle.std.specs.Prelude.{Bool, true, false, ◌&&◌, ◌||◌, ℕ, ◌%◌, eqb, if◌then◌else◌}
use Rattle.device.specs.Parts.{is_large}
use Rattle.device.specs.declared.Part.{Part}
use Rattle.model_types.specs.declared.Phase.{Phase}
use Rattle.model_types.specs.declared.Phase.TheVariants.{Free, EraseAwaited, DataAwaited, Programming, Erasing, Suspending, Suspended}
use Rattle.model_types.specs.declared.Action.{Action}
use Rattle.model_types.specs.declared.Action.TheVariants.{ToArray, ToIdentifier, ToStatus, Clear, AwaitErase, AwaitData, Confirm, Store}
use Rattle.model_types.specs.declared.Action.TheVariants.{WrongSecond, Suspend, Resume, Ignore, Refuse}
use Rattle.model_types.specs.declared.Cycle.{Cycle}

-- the command of a cycle: the low 8 bits of its data (R-write-1)
unfoldable pub command_of : Cycle → ℕ
command_of c = c.data % 256

-- 40H asks for a program, and on devices 5 to 8 10H does too (R-write-2)
unfoldable pub asks_program : Part → ℕ → Bool
asks_program part b = eqb b 0x40 || (is_large part && eqb b 0x10)

-- nothing awaited, running or suspended: B0H too sets read array (R-write-1, R-write-2, R-write-3)
unfoldable pub first_write : Part → ℕ → Action
first_write part b =
    if eqb b 0xFF then ToArray
    else if eqb b 0xB0 then ToArray
    else if eqb b 0x90 then ToIdentifier
    else if eqb b 0x70 then ToStatus
    else if eqb b 0x50 then Clear
    else if eqb b 0x20 then AwaitErase
    else if asks_program part b then AwaitData
    else Refuse

-- after 20H (R-second-1)
unfoldable pub after_erase : ℕ → Action
after_erase b = if eqb b 0xD0 then Confirm else WrongSecond

-- while an erase is busy (R-busy-2)
unfoldable pub while_erasing : ℕ → Action
while_erasing b = if eqb b 0xB0 then Suspend else Ignore

-- while a suspend is under way; a second B0H begins nothing anew (R-busy-2)
unfoldable pub while_suspending : ℕ → Action
while_suspending b = if eqb b 0x70 then ToStatus else Ignore

-- while suspended (R-suspended-1)
unfoldable pub while_suspended : ℕ → Action
while_suspended b =
    if eqb b 0xFF then ToArray
    else if eqb b 0x70 then ToStatus
    else if eqb b 0xD0 then Resume
    else Ignore

-- the command rules: after 40H all is data, and a busy program ignores every write (R-second-1, R-busy-1)
abbrev pub action_of : Part → Phase → ℕ → Action
action_of part Free b = first_write part b
action_of part EraseAwaited b = after_erase b
action_of part DataAwaited b = Store
action_of part (Programming x) b = Ignore
action_of part Erasing b = while_erasing b
action_of part (Suspending n) b = while_suspending b
action_of part Suspended b = while_suspended b

-- the write asks for nothing that there is
abbrev pub is_refuse : Action → Bool
is_refuse ToArray = false
is_refuse ToIdentifier = false
is_refuse ToStatus = false
is_refuse Clear = false
is_refuse AwaitErase = false
is_refuse AwaitData = false
is_refuse Confirm = false
is_refuse Store = false
is_refuse WrongSecond = false
is_refuse Suspend = false
is_refuse Resume = false
is_refuse Ignore = false
is_refuse Refuse = true
