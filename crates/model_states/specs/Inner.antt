-- How the code tests that a state is not proper, part by part, with SR.7 and SR.6 in one comparison. Not part of what a buyer must
-- believe: that these tests together are `improper` is proved (`improper_parts`).
use Rattle.std.specs.Prelude.{Bool, false, not, ◌||◌, ℕ, ◌/◌, ◌%◌, eqb, ltb, leb, if◌then◌else◌}
use Rattle.device.specs.Parts.{size_of}
use Rattle.device.specs.declared.Device.{Device}
use Rattle.model_types.specs.declared.Mode.{Mode}
use Rattle.model_types.specs.declared.Phase.{Phase}
use Rattle.model_types.specs.declared.Phase.TheVariants.{Free, EraseAwaited, DataAwaited, Programming, Erasing, Suspending}
use Rattle.model_types.specs.declared.Phase.TheVariants.{Suspended}
use Rattle.model_types.specs.Phases.{is_pending}
use Rattle.model_types.specs.Status.{SR6, SR3}
use Rattle.model_states.specs.States.{is_status, is_identifier, most_left}

-- SR.7 and SR.6 as one number: SR.7 counts 2, SR.6 counts 1
abbrev pub top_bits : Phase → ℕ
top_bits Free = 2
top_bits EraseAwaited = 2
top_bits DataAwaited = 2
top_bits (Programming b) = 0
top_bits Erasing = 0
top_bits (Suspending n) = 0
top_bits Suspended = 3

-- the mode is not status while awaiting or busy, or is identifier while suspended
abbrev pub bad_mode : Phase → Mode → Bool
bad_mode Free m = false
bad_mode EraseAwaited m = not (is_status m)
bad_mode DataAwaited m = not (is_status m)
bad_mode (Programming b) m = not (is_status m)
bad_mode Erasing m = not (is_status m)
bad_mode (Suspending n) m = not (is_status m)
bad_mode Suspended m = is_identifier m

-- SR.2-0 are not zero, or SR.7 and SR.6 do not fit the phase
unfoldable pub bad_status : Phase → ℕ → Bool
bad_status ph sr = not (eqb (sr % SR3) 0) || not (eqb (sr / SR6) (top_bits ph))

-- cycles of a suspend to go: not from 1 to S while it is under way
abbrev pub bad_suspend : Device → Phase → Bool
bad_suspend d Free = false
bad_suspend d EraseAwaited = false
bad_suspend d DataAwaited = false
bad_suspend d (Programming b) = false
bad_suspend d Erasing = false
bad_suspend d (Suspending n) = eqb n 0 || ltb d.suspend n
bad_suspend d Suspended = false

-- cycles to go: not from 1 to P or E with an operation, not zero without one, or those of a suspend are bad
unfoldable pub bad_left : Device → Phase → ℕ → Bool
bad_left d ph left = if is_pending ph then (eqb left 0 || ltb (most_left d ph) left) || bad_suspend d ph else not (eqb left 0)

-- the operation's address: not inside the array, or not zero without one
unfoldable pub bad_address : Device → Phase → ℕ → Bool
bad_address d ph a = if is_pending ph then leb (size_of d.part) a else not (eqb a 0)
