-- How a run that nothing refuses ends, with or without the verify after the load, for every supply and level that is let in.
use Rattle.std.specs.Prelude.{◌≡◌, Bool, true, not, ◌&&◌, List, [], ◌∷◌, ℕ, ◌+◌, length, get_or, eqb, if◌then◌else◌}
use Rattle.device.specs.declared.Part.{Part}
use Rattle.common.specs.Lists.{overlaid}
use Rattle.device.specs.declared.Device.{Device}
use Rattle.device.specs.Parts.{start_of}
use Rattle.model_types.specs.declared.Pins.{Pins}
use Rattle.model_types.specs.declared.Kind.TheVariants.{Read, Write}
use Rattle.model_types.specs.declared.Cycle.{Cycle}
use Rattle.model_types.specs.declared.Mode.{Mode}
use Rattle.model_types.specs.declared.Mode.TheVariants.{Array, Status}
use Rattle.model_types.specs.declared.State.{State}
use Rattle.model_levels.specs.Levels.{vpp_low, unlocked}
use Rattle.model_states.specs.States.{is_at_rest}
use Rattle.model_types.specs.Counts.{worn}
use Rattle.loader_walk.specs.Walks.{rises_in, diff_from}
use Rattle.loader_run.specs.declared.Ran.{Ran}
use Rattle.loader_run_claims.specs.Wear.{differing, held_in, formula_by}
use Rattle.loader_run_claims.specs.Made.{bus_cycle, opening_then, cycles_by, cycles_at, smooth_at}
use Rattle.loader.specs.declared.Work.TheVariants.{Load}
use Rattle.loader_run.specs.declared.Job.{Job}
use Rattle.loader_run.specs.Runs.{run_left, doing}

-- the block holds what is wanted: nothing to erase or program
unfoldable pub as_wanted : List ℕ → List ℕ → Bool
as_wanted w ys = eqb (differing (length w) 0 w ys) 0

-- the boot block, and RP# not at unlock level
unfoldable pub shut : Part → Pins → ℕ → Bool
shut part p k = eqb k 0 && not (unlocked part p 0)

-- the end's number: well with nothing to do; else 21 with VPP low; else 23 or 24 where the block is shut; else well (R-order-5)
unfoldable pub end_number : Device → Pins → ℕ → List ℕ → List ℕ → ℕ
end_number d p k w ys =
    if as_wanted w ys then 0
    else if vpp_low d.part p then 21
    else if shut d.part p k then (if rises_in w ys then 23 else 24)
    else 0

-- the status that the first operation leaves which cannot start: SR.7 with SR.5 or SR.4, and SR.3 where VPP is low
unfoldable pub fault_status : Device → Pins → List ℕ → List ℕ → ℕ
fault_status d p w ys =
    if vpp_low d.part p then (if rises_in w ys then 0xA8 else 0x98)
    else if rises_in w ys then 0xA0
    else 0x90

-- the two writes of an operation that does not start, and one poll
abbrev pub erase_tried : Pins → ℕ → List Cycle
erase_tried p a = bus_cycle p Write a 0x20 ∷ bus_cycle p Write a 0xD0 ∷ bus_cycle p Read a 0 ∷ []

-- .. of a program that does not start
abbrev pub program_tried : Pins → ℕ → ℕ → List Cycle
program_tried p x b = bus_cycle p Write x 0x40 ∷ bus_cycle p Write x b ∷ bus_cycle p Read x 0 ∷ []

-- the cycles up to such an end: the first reads, then the erase, or the program of the first byte that differs
abbrev pub fault_cycles : Pins → ℕ → List ℕ → List ℕ → List Cycle
fault_cycles p a w ys =
    opening_then p a (length w) (if rises_in w ys then erase_tried p a
    else program_tried p (a + diff_from 0 w ys) (get_or w (diff_from 0 w ys) 0))

-- the mode that a good load leaves: read array after the first reads, read status after an operation
abbrev pub loaded_mode : List ℕ → List ℕ → Mode
loaded_mode w ys = if as_wanted w ys then Array else Status

-- .. and read array after the verify
abbrev pub end_mode : Bool → List ℕ → List ℕ → Mode
end_mode verify w ys = if verify then Array else loaded_mode w ys

-- a state with the counts that a load leaves: one more erase of block k where it erases
abbrev pub erased_from : Bool → ℕ → State → State
erased_from erases k s =
    record {
      mode = s.mode;
      status = s.status;
      phase = s.phase;
      left = s.left;
      address = s.address;
      wear = if erases
          then worn s.wear k else s.wear;
    }

-- a run that ends well, and one that ends by a fault at cycle n + 5; it erases where some bit must rise
abbrev pub well_ran : Bool → Device → State → ℕ → List ℕ → List ℕ → Ran
well_ran verify d s k w ys =
    record {
      count = formula_by verify d w ys;
      end = 0;
      address = 0;
      state = is_at_rest (erased_from (rises_in w ys) k s) (end_mode verify w ys) 0x80;
    }

-- what a run returns that ends by a fault n
abbrev pub fault_ran : Device → State → Pins → List ℕ → List ℕ → ℕ → Ran
fault_ran d s p w ys n = record { count = length w + 5; end = n; address = 0; state = is_at_rest s Status (fault_status d p w ys) }

-- what such a run returns, what it leaves in array and scratch, and its cycles
unfoldable pub ran_as : Bool → Job → List ℕ → List ℕ → Ran
ran_as verify j w ys = if eqb (end_number j.device j.pins j.block w ys) 0 then well_ran verify j.device j.state j.block w ys
    else fault_ran j.device j.state j.pins w ys (end_number j.device j.pins j.block w ys)

-- .. what it leaves in the array
unfoldable pub bytes_as : Device → Pins → ℕ → ℕ → List ℕ → List ℕ → List ℕ → List ℕ
bytes_as d p k a w ys xs = if eqb (end_number d p k w ys) 0 then overlaid xs a w else xs

-- .. what it leaves in scratch
unfoldable pub scratch_as : Device → Pins → ℕ → List ℕ → List ℕ → List ℕ
scratch_as d p k w ys = if eqb (end_number d p k w ys) 0 then w else ys

-- .. the cycles that it makes
unfoldable pub cycles_as : Bool → Device → Pins → ℕ → ℕ → List ℕ → List ℕ → List Cycle
cycles_as verify d p k a w ys = if eqb (end_number d p k w ys) 0 then cycles_by verify d p a w ys else fault_cycles p a w ys

-- what a run returns, what it leaves in array and scratch, the cycles that it makes, and that the model takes them all and nothing is cut
pub record Whole (verify : Bool) (j : Job) (xs w sc : List ℕ) : Type 0 where
  pub ran : (run_left (doing (Load verify) j) xs w sc).ran ≡ ran_as verify j w (held_in (start_of j.device.part j.block) (length w) xs)
  pub bytes : (run_left (doing (Load verify) j) xs w sc).bytes
      ≡ bytes_as j.device j.pins j.block (start_of j.device.part j.block) w
      (held_in (start_of j.device.part j.block) (length w) xs) xs
  pub scratch : (run_left (doing (Load verify) j) xs w sc).scratch
      ≡ scratch_as j.device j.pins j.block w (held_in (start_of j.device.part j.block) (length w) xs)
  pub made : cycles_at (doing (Load verify) j) xs w sc
      ≡ cycles_as verify j.device j.pins j.block (start_of j.device.part j.block) w
      (held_in (start_of j.device.part j.block) (length w) xs)
  pub smooth : smooth_at (doing (Load verify) j) xs w sc ≡ true
