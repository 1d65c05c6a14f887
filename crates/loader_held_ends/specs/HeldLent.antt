-- A load with interruptions on lent bytes, in byte mode and in word mode, beside the run without them, and demand 3 of it.
use Rattle.std.specs.Prelude.{◌≡◌, Bool, true, ◌&&◌, List, ◌++◌, ℕ, ◌+◌, ◌*◌, ◌≤◌, ◌<◌, length, get_or, drop, if◌then◌else◌}
use Rattle.common.specs.Lists.{overlaid, Bytes}
use Rattle.common.specs.Numbers.{NoRow}
use Rattle.device.specs.Parts.{start_of, length_of}
use Rattle.units.specs.Units.{units, back, bytes_in}
use Rattle.units.specs.Address.{byte_of}
use Rattle.model_levels.specs.Levels.{vpp_high, unlocked}
use Rattle.loader_walk.specs.Walks.{rises_in}
use Rattle.loader_run_claims.specs.Wear.{held_in, formula_by}
use Rattle.loader_held_run.specs.HeldRuns.{held_run_rows, HeldLeft, lent_held}
use Rattle.loader_held_claims.specs.HeldMade.{read_at, interrupts, interruptions, added_in}
use Rattle.loader_held_claims.specs.HeldEnds.{erases, added_by, ends_turned, ran_more}
use Rattle.loader_held_ends.specs.HeldMission.{HeldDemand3}
use Rattle.loader.specs.declared.Work.TheVariants.{Load}
use Rattle.loader_run.specs.declared.Job.{Job}
use Rattle.loader_run.specs.Runs.{lent_run, doing}

-- no number refuses the run or its lists. The rest is so of all that code can be handed: bytes, and busy times of 16 bits
pub record LentTaken (j : Job) (array wanted scratch bs room : List ℕ) : Type 0 where
  pub accepted : NoRow (held_run_rows j (length array) (length wanted) (length scratch) bs (length room))
  pub array_bytes : Bytes array
  pub wanted_bytes : Bytes wanted
  pub room_bytes : Bytes room
  pub programs : j.device.program ≤ 65535
  pub erase_time : j.device.erase ≤ 65535

-- .. and VPP is high, and the boot block unlocked if it is the one
pub record LentHeldStart (j : Job) (array wanted scratch bs room : List ℕ) : Type 0 where
  pub base : LentTaken j array wanted scratch bs room
  pub high : vpp_high j.device.part j.pins ≡ true
  pub unlock : j.block ≡ 0 → unlocked j.device.part j.pins 0 ≡ true

-- the room in bytes after an interruption: the units at the addresses, low byte first, and what it held past them
abbrev pub room_in : Bool → List ℕ → List ℕ → List ℕ → List ℕ
room_in word array bs room = back word (read_at (units word array) bs) ++ drop (bytes_in word (length bs)) room

module _ (verify : Bool) (j : Job) (array wanted scratch ps bs room : List ℕ) where
  -- what is wanted, and what the block holds, in units
  abbrev pub W : List ℕ
  W = units j.device.part.word wanted

  -- .. what the block holds
  abbrev pub Y : List ℕ
  Y = held_in (start_of j.device.part j.block) (length_of j.device.part j.block) (units j.device.part.word array)

  -- what the load with interruptions returns and leaves
  abbrev pub held : HeldLeft
  held = lent_held (doing (Load verify) j) array wanted scratch ps bs room

  -- whatever the end: what the run without interruptions returns and leaves, with the cycles that they add, in one case another mode, and
  -- the room
  pub record LentBeside : Type 0 where
    pub ran : held.ran
        ≡ ran_more (lent_run (doing (Load verify) j) array wanted scratch).ran (added_by j.device j.pins j.block W Y bs ps)
        (ends_turned j.device j.pins j.block W Y ps)
    pub bytes : held.bytes ≡ (lent_run (doing (Load verify) j) array wanted scratch).bytes
    pub scratch_left : held.scratch ≡ (lent_run (doing (Load verify) j) array wanted scratch).scratch
    pub filled : held.room
        ≡ (if erases j.device j.pins j.block W Y && interrupts ps 0 j.device.erase
        then room_in j.device.part.word array bs room else room)

  -- demand 3 in bytes; block k begins at byte `from`
  abbrev pub from : ℕ
  from = byte_of j.device.part.word (start_of j.device.part j.block)

  -- demand 3 of a load with interruptions, in lent bytes
  pub record LentHeldDemand3 : Type 0 where
    -- it ends well
    pub well : held.ran.end ≡ 0
    -- the block holds the wanted bytes, which are as many as the block has
    pub sized : length wanted ≡ bytes_in j.device.part.word (length_of j.device.part j.block)
    pub block : held_in from (length wanted) held.bytes ≡ wanted
    -- every other byte is as before
    pub before : (x : ℕ) → x < from → get_or held.bytes x 0 ≡ get_or array x 0
    pub behind : (x : ℕ) → from + length wanted ≤ x → get_or held.bytes x 0 ≡ get_or array x 0
    pub array_left : held.bytes ≡ overlaid array from wanted
    -- scratch ends as wanted
    pub scratch_left : held.scratch ≡ wanted
    -- the count: the formula's, and what the interruptions add, at most S + k + 4 for each
    pub by_formula : held.ran.count
        ≡ formula_by verify j.device W Y + (if rises_in W Y then added_in j.device bs ps 0 j.device.erase else 0)
    pub at_most : held.ran.count ≤ formula_by verify j.device W Y + interruptions ps 0 j.device.erase
        * (j.device.suspend + length bs + 4)
    -- the room: the bytes of the units at the addresses where an interruption was made; past them, and with none made, as it was
    pub room_left : held.room
        ≡ (if rises_in W Y && interrupts ps 0 j.device.erase then room_in j.device.part.word array bs room else room)
    -- and every clause of demand 3 holds of the units that were lent: operations begun, cycles made, least wear
    pub of_units : HeldDemand3 verify j (units j.device.part.word array) W (units j.device.part.word scratch) bs ps
        (units j.device.part.word room)
