-- Steps 1 to 3 of a cycle: what becomes of an operation before the read or write.
use Rattle.std.specs.Prelude.{◌&&◌, ℕ, ◌+◌, ◌-◌, eqb, if◌then◌else◌}
use Rattle.device.specs.Parts.{block_of, length_of}
use Rattle.device.specs.declared.Part.{Part}
use Rattle.model_types.specs.declared.Mode.TheVariants.{Status}
use Rattle.model_types.specs.declared.Phase.{Phase}
use Rattle.model_types.specs.declared.Phase.TheVariants.{Free, EraseAwaited, DataAwaited, Programming, Erasing, Suspending, Suspended}
use Rattle.model_types.specs.declared.Effect.{Effect}
use Rattle.model_types.specs.declared.Effect.TheVariants.{Nothing, Program, Erase, CutProgram, CutErase}
use Rattle.model_types.specs.declared.State.{State}
use Rattle.model_types.specs.declared.Pins.{Pins}
use Rattle.model_types.specs.declared.Settled.{Settled}
use Rattle.model_levels.specs.Levels.{rp_low, vpp_low}
use Rattle.model_types.specs.Phases.{is_busy, is_suspending, suspend_left, is_pending}
use Rattle.model_types.specs.Status.{SR7, SR6, SR5, SR4, SR3, with_bits, without_bits}
use Rattle.model_states.specs.States.{is_at_rest, in_phase, reset_of}

-- a settled state by its parts
abbrev pub settled_as : State → Effect → Settled
settled_as s e = record { state = s; effect = e }

-- the cut of the operation that is running, being suspended or suspended at an address
abbrev pub cut_of : Phase → Part → ℕ → Effect
cut_of Free part a = Nothing
cut_of EraseAwaited part a = Nothing
cut_of DataAwaited part a = Nothing
cut_of (Programming b) part a = CutProgram a b
cut_of Erasing part a = CutErase (block_of part a)
cut_of (Suspending n) part a = CutErase (block_of part a)
cut_of Suspended part a = CutErase (block_of part a)

-- the end of the operation that is running (R-cycle-5)
abbrev pub finish_of : Phase → Part → ℕ → Effect
finish_of Free part a = Nothing
finish_of EraseAwaited part a = Nothing
finish_of DataAwaited part a = Nothing
finish_of (Programming b) part a = Program a b
finish_of Erasing part a = Erase (block_of part a)
finish_of (Suspending n) part a = Nothing
finish_of Suspended part a = Nothing

-- what a cut by VPP sets: SR.7 and SR.3, with SR.4 for a program or SR.5 for an erase (R-cycle-4)
abbrev pub cut_bits : Phase → ℕ
cut_bits Free = 0
cut_bits EraseAwaited = 0
cut_bits DataAwaited = 0
cut_bits (Programming b) = SR7 + SR4 + SR3
cut_bits Erasing = SR7 + SR5 + SR3
cut_bits (Suspending n) = SR7 + SR5 + SR3
cut_bits Suspended = SR7 + SR5 + SR3

-- the residue that a cut needs, in units: one for a program, the block's for an erase (R-cycle-7)
abbrev pub residue_for : Phase → Part → ℕ → ℕ
residue_for Free part a = 0
residue_for EraseAwaited part a = 0
residue_for DataAwaited part a = 0
residue_for (Programming b) part a = 1
residue_for Erasing part a = length_of part (block_of part a)
residue_for (Suspending n) part a = length_of part (block_of part a)
residue_for Suspended part a = length_of part (block_of part a)

-- step 1: RP# low (R-cycle-3)
abbrev pub reset_by : Part → State → Settled
reset_by part s = settled_as (reset_of s) (cut_of s.phase part s.address)

-- step 2: VPP low with an operation running, being suspended or suspended; SR.6 is cleared (R-cycle-4)
unfoldable pub cut_by : Part → State → Settled
cut_by part s =
    settled_as (is_at_rest s Status (with_bits (without_bits s.status SR6) (cut_bits s.phase))) (cut_of s.phase part s.address)

-- step 3: a running operation counts one cycle off; at zero it is finished (R-cycle-5)
unfoldable pub counted_off : Part → State → Settled
counted_off part s =
    if eqb (s.left - 1) 0 then settled_as (is_at_rest s s.mode (with_bits s.status SR7)) (finish_of s.phase part s.address)
    else settled_as (record {
      mode = s.mode;
      status = s.status;
      phase = s.phase;
      left = s.left - 1;
      address = s.address;
      wear = s.wear;
    }) Nothing

-- step 3 while a suspend is under way: the erase stands still and one cycle of the suspend passes; on the last SR.7 and SR.6 are set
-- (R-busy-2)
unfoldable pub suspend_passed : State → Settled
suspend_passed s =
    if eqb (suspend_left s.phase - 1) 0 then settled_as (in_phase Suspended (with_bits s.status (SR7 + SR6)) s) Nothing
    else settled_as (in_phase (Suspending (suspend_left s.phase - 1)) s.status s) Nothing

-- step 3 of a busy device
unfoldable pub passed_of : Part → State → Settled
passed_of part s = if is_suspending s.phase then suspend_passed s else counted_off part s

-- the three steps in their order (R-cycle-3, R-cycle-4, R-cycle-5)
unfoldable pub settle_of : Part → State → Pins → Settled
settle_of part s p =
    if rp_low p then reset_by part s
    else if vpp_low part p && is_pending s.phase then cut_by part s
    else if is_busy s.phase then passed_of part s
    else settled_as s Nothing
