-- The start that the mission speaks of, and what it demands of a load from there.
use Rattle.std.specs.Prelude.{◌≡◌, Bool, true, false, List, ℕ, ◌+◌, ◌≤◌, ◌<◌, min, length, get_or}
use Rattle.common.specs.Lists.{overlaid}
use Rattle.device.specs.declared.Device.{Device}
use Rattle.device.specs.Parts.{unknown_device, size_of, length_of, start_of, block_of}
use Rattle.model_types.specs.Cells.{Cells}
use Rattle.model_types.specs.Counts.{stop, count_of}
use Rattle.model_levels.specs.Levels.{rp_low, vpp_high, bad_pins, unlocked}
use Rattle.model_states.specs.States.{improper}
use Rattle.loader_steps.specs.Front.{no_block}
use Rattle.model_types.specs.Phases.{under_way}
use Rattle.loader_run_claims.specs.Wear.{begun_at, held_by, noted_all, operations_of, formula_by}
use Rattle.model_history.specs.History.{Bus, World, world_of, buses_of, world_after, effects_in, begun_over, accepts_all, uncut}
use Rattle.model_history.specs.History.{total_of, erase_of}
use Rattle.model_history.specs.History.{erases_begun, programs_begun}
use Rattle.loader_run_claims.specs.Made.{cycles_at}
use Rattle.loader.specs.declared.Work.TheVariants.{Load}
use Rattle.loader_run.specs.declared.Job.{Job}
use Rattle.loader_run.specs.Runs.{run_left, doing}

-- a proper idle start at any supply that is let in: a known device with its array, a proper state with nothing under way, a block
-- that exists, wanted and scratch of its length, RP# not low and no bad level; busy times up to 65,535; and units of the part's width,
-- bytes or words, in the array and wanted. All lists are of units, as lent bytes make them
pub record Taken (j : Job) (xs w sc : List ℕ) : Type 0 where
  pub known : unknown_device j.device ≡ false
  pub sized : length xs ≡ size_of j.device.part
  pub proper : improper j.device j.state ≡ false
  pub idle : under_way j.state.phase ≡ false
  pub block : no_block j.device.part j.block ≡ false
  pub wanted : length w ≡ length_of j.device.part j.block
  pub scratch : length sc ≡ length_of j.device.part j.block
  pub up : rp_low j.pins ≡ false
  pub levels : bad_pins j.device.part j.pins ≡ false
  pub programs : j.device.program ≤ 65535
  pub erases : j.device.erase ≤ 65535
  pub bytes : Cells j.device.part w
  pub held : Cells j.device.part xs

-- the mission's start: such a start with VPP high, in either band where there are two, and the boot block unlocked if it is the one: RP#
-- at unlock level, or WP# high on devices 5 to 8 (R-demand-3)
pub record Start (j : Job) (xs w sc : List ℕ) : Type 0 where
  pub base : Taken j xs w sc
  pub high : vpp_high j.device.part j.pins ≡ true
  pub unlock : j.block ≡ 0 → unlocked j.device.part j.pins 0 ≡ true

-- cycles from v that cut no operation and bring block k to w
pub record Brings (d : Device) (v : World) (k : ℕ) (w : List ℕ) (bs : List Bus) : Type 0 where
  pub whole : uncut (effects_in d v bs) ≡ true
  pub there : held_by d.part k (world_after d v bs).bytes ≡ w

-- a load's own cycles, with or without the verify after it, none with a residue
abbrev pub own_cycles : Bool → Job → List ℕ → List ℕ → List ℕ → List Bus
own_cycles verify j xs w sc = buses_of (cycles_at (doing (Load verify) j) xs w sc)

-- bs begin at least as many erases of block k as cs, and at least as many programs in it (R-demand-3)
pub record NoFewer (d : Device) (v : World) (k : ℕ) (cs bs : List Bus) : Type 0 where
  pub erases : erases_begun d v k cs ≤ erases_begun d v k bs
  pub programs : programs_begun d v k cs ≤ programs_begun d v k bs

-- demand 3, clause by clause in the mission's order: of a run, which has the verify after the load, and of a load alone (R-demand-3)
pub record Demand3 (verify : Bool) (j : Job) (xs w sc : List ℕ) : Type 0 where
  -- a load ends well
  pub well : (run_left (doing (Load verify) j) xs w sc).ran.end ≡ 0
  -- the block holds the wanted units
  pub block : held_by j.device.part j.block (run_left (doing (Load verify) j) xs w sc).bytes ≡ w
  -- every other unit is as before
  pub others : (x : ℕ) → (block_of j.device.part x ≡ j.block → ⊥) → get_or (run_left (doing (Load verify) j) xs w sc).bytes x 0
      ≡ get_or xs x 0
  -- .. so the array is the old one with the wanted units laid over the block
  pub array_left : (run_left (doing (Load verify) j) xs w sc).bytes ≡ overlaid xs (start_of j.device.part j.block) w
  -- it erases once if some bit must rise, otherwise never; it programs each unit that then differs once and no other: on a
  -- device in word mode words are counted
  pub begins : begun_at (doing (Load verify) j) xs w sc
      ≡ operations_of j.device.part j.block (start_of j.device.part j.block) w (held_by j.device.part j.block xs)
  -- its own cycles are accepted, cut nothing and bring the block to what is wanted; they lead to what the run leaves, and begin that list
  pub own_accepted : accepts_all j.device (world_of j.state xs) (own_cycles verify j xs w sc) ≡ true
  pub own_brings : Brings j.device (world_of j.state xs) j.block w (own_cycles verify j xs w sc)
  pub own_leads : world_after j.device (world_of j.state xs) (own_cycles verify j xs w sc)
      ≡ world_of (run_left (doing (Load verify) j) xs w sc).ran.state (run_left (doing (Load verify) j) xs w sc).bytes
  pub own_begins : noted_all (begun_over j.device (world_of j.state xs) (own_cycles verify j xs w sc))
      ≡ begun_at (doing (Load verify) j) xs w sc
  -- no uncut cycles from the same start to the same block contents, refused ones among them or not, begin fewer erases of that block
  -- or fewer programs in it
  pub least_wear : Cells j.device.part xs → (bs : List Bus) → Brings j.device (world_of j.state xs) j.block w bs
      → NoFewer j.device (world_of j.state xs) j.block (own_cycles verify j xs w sc) bs
  -- the reported count is the number of cycles made ..
  pub counted : (run_left (doing (Load verify) j) xs w sc).ran.count ≡ length (cycles_at (doing (Load verify) j) xs w sc)
  -- .. by the formula
  pub by_formula : (run_left (doing (Load verify) j) xs w sc).ran.count
      ≡ formula_by verify j.device w (held_by j.device.part j.block xs)
  -- the counts of erases: that of the block has gone up by the erases begun, up to the stop; every other is as it was
  pub worn_block : count_of j.state.wear j.block ≤ stop
      → count_of (run_left (doing (Load verify) j) xs w sc).ran.state.wear j.block
      ≡ min (count_of j.state.wear j.block + total_of (erase_of j.block) (begun_at (doing (Load verify) j) xs w sc)) stop
  pub worn_others : (i : ℕ) → i < 7 → (i ≡ j.block → ⊥) → count_of (run_left (doing (Load verify) j) xs w sc).ran.state.wear i
      ≡ count_of j.state.wear i
  -- and scratch ends as wanted
  pub scratch_left : (run_left (doing (Load verify) j) xs w sc).scratch ≡ w
