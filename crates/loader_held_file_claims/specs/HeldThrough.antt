-- A load from a file with interruptions, on lent bytes: the start that demand 3 speaks of, and what a good load returns and leaves.
use Rattle.std.specs.Prelude.{◌≡◌, Bool, true, false, ◌&&◌, List, ℕ, ◌+◌, ◌≤◌, ◌<◌, length, get_or, if◌then◌else◌}
use Rattle.common.specs.Lists.{Bytes}
use Rattle.common.specs.Numbers.{NoRow}
use Rattle.device.specs.Parts.{length_of, start_of}
use Rattle.units.specs.Units.{units}
use Rattle.units.specs.Address.{byte_of}
use Rattle.model_levels.specs.Levels.{vpp_high, unlocked}
use Rattle.loader_walk.specs.Walks.{rises_in}
use Rattle.loader_run_claims.specs.Wear.{held_in, formula_by}
use Rattle.loader_from_file.specs.Loads.{wanted_of}
use Rattle.loader_held_run.specs.HeldRuns.{lent_held}
use Rattle.loader_held_claims.specs.HeldMade.{interrupts, added_in}
use Rattle.loader_held_ends.specs.HeldLent.{room_in, LentHeldDemand3}
use Rattle.loader_held_file.specs.HeldLoads.{held_load_rows, HeldLoadLeft, held_load_made, held_file_left}
use Rattle.loader_run.specs.declared.Job.{Job}
use Rattle.loader.specs.declared.Work.TheVariants.{Load}
use Rattle.loader_run.specs.Runs.{doing}

-- a load that nothing refuses, on bytes, with busy times of 16 bits, VPP high, and the boot block unlocked if it is the one
pub record HeldFileStart (j : Job) (xs w sc f : List ℕ) (asked : ℕ) (bs room : List ℕ) : Type 0 where
  pub accepted : NoRow (held_load_rows j (length xs) (length w) (length sc) f asked bs (length room))
  pub file_bytes : Bytes f
  pub array_bytes : Bytes xs
  pub room_bytes : Bytes room
  pub programs : j.device.program ≤ 65535
  pub erase_time : j.device.erase ≤ 65535
  pub high : vpp_high j.device.part j.pins ≡ true
  pub unlock : j.block ≡ 0 → unlocked j.device.part j.pins 0 ≡ true

module _ (verify : Bool) (j : Job) (xs w sc f : List ℕ) (asked : ℕ) (ps bs room : List ℕ) where
  -- what is wanted: the file, then FFH to the end of the block; and what the load leaves
  abbrev pub wish : List ℕ
  wish = wanted_of f (length w)

  -- .. what the load returns and leaves
  abbrev pub loaded : HeldLoadLeft
  loaded = held_file_left (doing (Load verify) j) xs w sc f asked ps bs room

  -- all of demand 3 holds of the run with interruptions that has the file and FFH as what is wanted, and the load leaves what that run
  -- leaves
  pub record HeldFileLoaded : Type 0 where
    pub well : loaded.ran.end ≡ 0
    pub counted : loaded.ran.count
        ≡ formula_by verify j.device (units j.device.part.word wish)
        (held_in (start_of j.device.part j.block) (length_of j.device.part j.block) (units j.device.part.word xs))
        + (if rises_in (units j.device.part.word wish)
        (held_in (start_of j.device.part j.block) (length_of j.device.part j.block) (units j.device.part.word xs))
        then added_in j.device bs ps 0 j.device.erase else 0)
    pub holds : held_in (byte_of j.device.part.word (start_of j.device.part j.block)) (length w) loaded.bytes ≡ wish
    pub before : (x : ℕ) → x < byte_of j.device.part.word (start_of j.device.part j.block) → get_or loaded.bytes x 0
        ≡ get_or xs x 0
    pub behind : (x : ℕ) → byte_of j.device.part.word (start_of j.device.part j.block) + length w ≤ x → get_or loaded.bytes x 0
        ≡ get_or xs x 0
    pub wanted_left : loaded.wanted ≡ wish
    pub scratch_left : loaded.scratch ≡ wish
    pub room_left : loaded.room
        ≡ (if rises_in (units j.device.part.word wish)
        (held_in (start_of j.device.part j.block) (length_of j.device.part j.block) (units j.device.part.word xs))
        && interrupts ps 0 j.device.erase
        then room_in j.device.part.word xs bs room else room)
    pub demand : LentHeldDemand3 verify j xs wish sc ps bs room
    pub left : loaded ≡ held_load_made (lent_held (doing (Load verify) j) xs wish sc ps bs room) wish
