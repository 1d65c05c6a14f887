-- The tests of a phase: what is awaited, running, being suspended or suspended.
use Rattle.std.specs.Prelude.{Bool, true, false, not, ℕ}
use Rattle.model_types.specs.declared.Phase.{Phase}
use Rattle.model_types.specs.declared.Phase.TheVariants.{Free, EraseAwaited, DataAwaited, Programming, Erasing, Suspending}
use Rattle.model_types.specs.declared.Phase.TheVariants.{Suspended}

-- nothing is awaited, running or suspended
abbrev pub is_free : Phase → Bool
is_free Free = true
is_free EraseAwaited = false
is_free DataAwaited = false
is_free (Programming b) = false
is_free Erasing = false
is_free (Suspending n) = false
is_free Suspended = false

-- something is
abbrev pub under_way : Phase → Bool
under_way ph = not (is_free ph)

-- a second write is awaited
abbrev pub is_awaited : Phase → Bool
is_awaited Free = false
is_awaited EraseAwaited = true
is_awaited DataAwaited = true
is_awaited (Programming b) = false
is_awaited Erasing = false
is_awaited (Suspending n) = false
is_awaited Suspended = false

-- busy: an operation is running, or a suspend of it is under way
abbrev pub is_busy : Phase → Bool
is_busy Free = false
is_busy EraseAwaited = false
is_busy DataAwaited = false
is_busy (Programming b) = true
is_busy Erasing = true
is_busy (Suspending n) = true
is_busy Suspended = false

-- a suspend is under way: the erase stands still
abbrev pub is_suspending : Phase → Bool
is_suspending Free = false
is_suspending EraseAwaited = false
is_suspending DataAwaited = false
is_suspending (Programming b) = false
is_suspending Erasing = false
is_suspending (Suspending n) = true
is_suspending Suspended = false

-- the cycles that it has to go; no other phase has such a count
abbrev pub suspend_left : Phase → ℕ
suspend_left Free = 0
suspend_left EraseAwaited = 0
suspend_left DataAwaited = 0
suspend_left (Programming b) = 0
suspend_left Erasing = 0
suspend_left (Suspending n) = n
suspend_left Suspended = 0

-- an erase is suspended
abbrev pub is_suspended : Phase → Bool
is_suspended Free = false
is_suspended EraseAwaited = false
is_suspended DataAwaited = false
is_suspended (Programming b) = false
is_suspended Erasing = false
is_suspended (Suspending n) = false
is_suspended Suspended = true

-- an operation is running, being suspended or suspended
abbrev pub is_pending : Phase → Bool
is_pending Free = false
is_pending EraseAwaited = false
is_pending DataAwaited = false
is_pending (Programming b) = true
is_pending Erasing = true
is_pending (Suspending n) = true
is_pending Suspended = true
