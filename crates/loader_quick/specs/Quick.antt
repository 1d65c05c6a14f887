-- What a load and a verify come to, stage by stage: where the block lies in what is lent, how a load ends whose operations cannot start,
-- what a good load leaves, and how a verify ends.
use Rattle.std.specs.Prelude.{◌≡◌, Bool, false, not, ◌&&◌, ◌||◌, List, ℕ, ◌+◌, ◌%◌, ◌≤◌, length, eqb, ltb, leb, if◌then◌else◌}
use Rattle.device.specs.declared.Part.{Part}
use Rattle.device.specs.declared.Device.{Device}
use Rattle.device.specs.Parts.{start_of}
use Rattle.common.specs.Lists.{overwritten}
use Rattle.units.specs.Units.{units, units_in, torn, back}
use Rattle.units.specs.Address.{byte_of, byte_at}
use Rattle.model_types.specs.declared.Pins.{Pins}
use Rattle.model_types.specs.declared.Mode.{Mode}
use Rattle.model_types.specs.declared.Mode.TheVariants.{Array, Status}
use Rattle.model_types.specs.declared.State.{State}
use Rattle.model_levels.specs.Levels.{vpp_low}
use Rattle.model_states.specs.States.{is_at_rest}
use Rattle.loader_walk.specs.Walks.{rises_in, diff_from}
use Rattle.loader.specs.declared.Work.{Work}
use Rattle.loader.specs.declared.Work.TheVariants.{Load, Verify}
use Rattle.loader_blocks.specs.declared.Done.{Done}
use Rattle.loader_blocks.specs.declared.Found.{Found}
use Rattle.loader_run.specs.declared.Ran.{Ran}
use Rattle.loader_run.specs.declared.Job.{Job}
use Rattle.loader_run_claims.specs.Wear.{held_in}
use Rattle.loader_run_claims.specs.Ends.{shut, erased_from, ran_as, bytes_as, scratch_as}
use Rattle.loader_verify_claims.specs.Verified.{units_read, verify_ran}
use Rattle.loader_quick.specs.declared.Made.{Made}

-- so many bytes lent, as a run takes them: block k lies inside the array, wanted and scratch are as long, a whole number of units
pub record Placed (part : Part) (k array wanted scratch : ℕ) : Type 0 where
  pub inside : byte_of part.word (start_of part k) + wanted ≤ array
  pub fitting : start_of part k + units_in part.word wanted ≤ units_in part.word array
  pub room : scratch ≡ wanted
  pub short : wanted ≤ 1048576
  pub whole : torn part.word wanted ≡ false

-- the units that block k holds of lent bytes, as many as are wanted
abbrev pub held_units : Part → ℕ → List ℕ → List ℕ → List ℕ
held_units part k array wanted = held_in (start_of part k) (length (units part.word wanted)) (units part.word array)

-- the units of lent bytes, by the part of what is run
abbrev pub units_of : Job → List ℕ → List ℕ
units_of j lent = units j.device.part.word lent

-- what a load of lent bytes returns, with the verify after it or without; what it leaves in the array and in scratch, in units
abbrev pub load_ran : Bool → Job → List ℕ → List ℕ → Ran
load_ran verify j array wanted = ran_as verify j (units j.device.part.word wanted) (held_units j.device.part j.block array wanted)

-- .. in the array
abbrev pub load_array : Job → List ℕ → List ℕ → List ℕ
load_array j array wanted =
    bytes_as j.device j.pins j.block (start_of j.device.part j.block) (units j.device.part.word wanted)
    (held_units j.device.part j.block array wanted)
    (units j.device.part.word array)

-- .. in scratch
abbrev pub load_scratch : Job → List ℕ → List ℕ → List ℕ
load_scratch j array wanted =
    scratch_as j.device j.pins j.block (units j.device.part.word wanted) (held_units j.device.part j.block array wanted)

-- no operation can start in block k: VPP is low, or the block is shut
unfoldable pub stuck_by : Part → Pins → ℕ → Bool
stuck_by part p k = vpp_low part p || shut part p k

-- the end by the first operation, an erase or a program, and the status that it leaves
unfoldable pub fault_end : Part → Pins → Bool → ℕ
fault_end part p erase = if vpp_low part p then 21 else if erase then 23 else 24

-- the status that an operation leaves that could not start
unfoldable pub fault_bits : Part → Pins → Bool → ℕ
fault_bits part p erase = if vpp_low part p then (if erase then 0xA8 else 0x98) else if erase then 0xA0 else 0x90

-- a block looked at, in units
abbrev pub looked_at : List ℕ → List ℕ → Found
looked_at w h = record { differs = ltb (diff_from 0 w h) (length w); rises = rises_in w h }

-- a load that can begin no operation, of n units: with nothing to do it ends well, else by the first operation
unfoldable pub tried_of : Part → State → Pins → ℕ → Found → Ran
tried_of part s p n f =
    if f.differs then record {
      count = n + 5;
      end = fault_end part p f.rises;
      address = 0;
      state = is_at_rest s Status (fault_bits part p f.rises);
    }
    else record { count = n + 2; end = 0; address = 0; state = is_at_rest s Array 0x80 }

-- the mode that a good load leaves, by what its operations cost
unfoldable pub mode_by : ℕ → Mode
mode_by cost = if eqb cost 0 then Array else Status

-- a good load of block k, of n units: 50H, FFH and the reads, then its operations
abbrev pub finished_of : State → ℕ → ℕ → Done → Ran
finished_of s k n w =
    record { count = n + 2 + w.cycles; end = 0; address = 0; state = is_at_rest (erased_from w.erased k s) (mode_by w.cycles) 0x80 }

-- a verify of n units at a whose first difference is at place m, with the two units there
unfoldable pub verdict_of : Bool → State → ℕ → ℕ → ℕ → ℕ → ℕ → Ran
verdict_of word s a n m held wanted =
    if ltb m n then record {
      count = m + 2;
      end = 25;
      address = byte_at word (a + m) (eqb (held % 256) (wanted % 256));
      state = is_at_rest s Array s.status;
    }
    else record { count = n + 1; end = 0; address = 0; state = is_at_rest s Array s.status }

-- a run that is refused
abbrev pub refused_ran : ℕ → State → Ran
refused_ran n s = record { count = 0; end = n; address = 0; state = s }

-- busy times as a device has them
abbrev pub Timed : Device → Type 0
Timed d = (d.program ≤ 65535) × (d.erase ≤ 65535)

-- some bit of block k must rise
abbrev pub must_rise : Part → ℕ → List ℕ → List ℕ → Bool
must_rise part k array wanted = rises_in (units part.word wanted) (held_units part k array wanted)

-- what a job came to, by its parts
abbrev pub made_of : Ran → Bool → Made
made_of r rises = record { ran = r; rises = rises }

-- what a load comes to, with the verify after it or without
abbrev pub load_made : Bool → Job → List ℕ → List ℕ → Made
load_made verify j array wanted = made_of (load_ran verify j array wanted) (must_rise j.device.part j.block array wanted)

-- the stages of a job by its work: what they come to; what they leave in the array and in scratch, in units
abbrev pub stages_made : Work → Job → List ℕ → List ℕ → Made
stages_made (Load verify) j array wanted = load_made verify j array wanted
stages_made Verify j array wanted =
    made_of
    (verify_ran j.device.part j.state (start_of j.device.part j.block) (units_of j wanted)
    (held_units j.device.part j.block array wanted))
    false

-- .. in the array
abbrev pub stages_array : Work → Job → List ℕ → List ℕ → List ℕ
stages_array (Load verify) j array wanted = load_array j array wanted
stages_array Verify j array wanted = units_of j array

-- .. in scratch
abbrev pub stages_scratch : Work → Job → List ℕ → List ℕ → List ℕ → List ℕ
stages_scratch (Load verify) j array wanted scratch = load_scratch j array wanted
stages_scratch Verify j array wanted scratch =
    overwritten (units_read (units_of j wanted) (held_units j.device.part j.block array wanted))
    (held_units j.device.part j.block array wanted)
    (units_of j scratch)

-- so many bytes lent lie as a run takes them, the array's a whole number of units too
unfoldable pub is_placed : Part → ℕ → ℕ → ℕ → ℕ → Bool
is_placed part k array wanted scratch =
    if ltb 1048576 wanted then false
    else eqb scratch wanted && leb (byte_of part.word (start_of part k) + wanted) array && not (torn part.word wanted)
    && not (torn part.word array)

-- what a job's stages return and leave: what they came to, the array and scratch
pub record MadeLeft : Type 0 where
  pub made : Made
  pub bytes : List ℕ
  pub scratch : List ℕ

-- the stages of a job on lent bytes, without its tests; refused where the bytes do not lie as a run takes them (R-number-11)
unfoldable pub tested_left : Job → List ℕ → List ℕ → List ℕ → MadeLeft
tested_left j array wanted scratch =
    if is_placed j.device.part j.block (length array) (length wanted) (length scratch)
    then record {
      made = stages_made j.work j array wanted;
      bytes = back j.device.part.word (stages_array j.work j array wanted);
      scratch = back j.device.part.word (stages_scratch j.work j array wanted scratch);
    }
    else record { made = made_of (refused_ran 11 j.state) false; bytes = array; scratch = scratch }
