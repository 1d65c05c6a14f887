-- A load with interruptions made to its end: what it returns, leaves, begins and makes, whatever the end; and demand 3 of it. Lists are of
-- units; bs are the addresses read, ps the polls told.
use Rattle.std.specs.Prelude.{◌≡◌, Bool, true, ◌&&◌, List, ℕ, ◌+◌, ◌*◌, ◌≤◌, ◌<◌, min, length, get_or, if◌then◌else◌}
use Rattle.common.specs.Lists.{overlaid}
use Rattle.device.specs.Parts.{start_of, block_of}
use Rattle.model_types.specs.Cells.{Cells}
use Rattle.model_types.specs.declared.Cycle.{Cycle}
use Rattle.model_types.specs.declared.Effect.{Effect}
use Rattle.model_types.specs.Counts.{stop, count_of}
use Rattle.model_history.specs.History.{Bus, world_of, buses_of, world_after, begun_over, accepts_all, total_of, erase_of}
use Rattle.loader_walk.specs.Walks.{rises_in}
use Rattle.loader_run_claims.specs.Wear.{begun_at, held_in, held_by, noted_all, operations_of, formula_by}
use Rattle.loader_run_claims.specs.Ends.{bytes_as, scratch_as}
use Rattle.loader_run_claims.specs.Mission.{Start, Brings, NoFewer}
use Rattle.loader_held_run.specs.HeldTurns.{HeldConfig}
use Rattle.loader_held_run.specs.HeldRuns.{held_bound, held_driven, held_beginning, held_ran}
use Rattle.loader_held_claims.specs.HeldMade.{Elsewhere, held_begun, held_made, held_smooth, filled_by, interrupts, interruptions, added_in}
use Rattle.loader_held_claims.specs.HeldEnds.{held_ran_as, room_as, held_cycles_as}
use Rattle.loader.specs.declared.Work.TheVariants.{Load}
use Rattle.loader_run.specs.declared.Job.{Job}
use Rattle.loader_run.specs.Runs.{doing}

module _ (verify : Bool) (j : Job) (xs w sc bs ps room : List ℕ) where
  -- where it ends; what it begins up to there, its cycles, and whether the model takes all of them and nothing is cut
  abbrev pub held_end : HeldConfig
  held_end = held_driven j.device w bs ps (held_beginning (doing (Load verify) j) xs sc room)

  -- the operations that the load begins
  abbrev pub held_begins : List Effect
  held_begins = held_begun (held_bound (length w) (length bs)) j.device w bs ps (held_beginning (doing (Load verify) j) xs sc room)

  -- the cycles that the load makes
  abbrev pub held_cycles : List Cycle
  held_cycles = held_made (held_bound (length w) (length bs)) j.device w bs ps (held_beginning (doing (Load verify) j) xs sc room)

  -- none of its cycles is refused or cuts
  abbrev pub held_fine : Bool
  held_fine = held_smooth (held_bound (length w) (length bs)) j.device w bs ps (held_beginning (doing (Load verify) j) xs sc room)

  -- its cycles as a history, none with a residue
  abbrev pub own_held : List Bus
  own_held = buses_of held_cycles

  -- what the block held
  abbrev pub held_yet : List ℕ
  held_yet = held_in (start_of j.device.part j.block) (length w) xs

  -- every end (specs/HeldEnds of loader_held_claims): the old load's, with the cycles that interruptions add, the room, and in one case
  -- another mode
  pub record HeldWhole : Type 0 where
    pub ran : held_ran held_end ≡ held_ran_as verify j w held_yet bs ps
    pub bytes : held_end.bytes ≡ bytes_as j.device j.pins j.block (start_of j.device.part j.block) w held_yet xs
    pub scratch : held_end.scratch ≡ scratch_as j.device j.pins j.block w held_yet
    pub filled : held_end.room ≡ room_as j.device j.pins j.block w held_yet xs bs ps room
    pub begun : held_begins ≡ begun_at (doing (Load verify) j) xs w sc
    pub made : held_cycles ≡ held_cycles_as verify j.device j.pins j.block (start_of j.device.part j.block) w held_yet bs ps
    pub smooth : held_fine ≡ true

  -- the mission's start, with addresses of other blocks and room for a unit of each
  pub record HeldStart : Type 0 where
    pub base : Start j xs w sc
    pub elsewhere : Elsewhere j.device j.block bs
    pub roomy : length bs ≤ length room

  -- demand 3, clause by clause as of a run without interruptions (specs/Mission of loader_run_claims) (R-held-2, R-demand-3)
  pub record HeldDemand3 : Type 0 where
    -- it ends well
    pub well : (held_ran held_end).end ≡ 0
    -- the block holds the wanted units
    pub block : held_by j.device.part j.block held_end.bytes ≡ w
    -- every other unit is as before
    pub others : (x : ℕ) → (block_of j.device.part x ≡ j.block → ⊥) → get_or held_end.bytes x 0 ≡ get_or xs x 0
    -- .. so the array is the old one with the wanted units laid over the block
    pub array_left : held_end.bytes ≡ overlaid xs (start_of j.device.part j.block) w
    -- one erase is begun if some bit must rise, otherwise none; each unit that then differs is programmed once and no other
    pub begins : held_begins
        ≡ operations_of j.device.part j.block (start_of j.device.part j.block) w (held_by j.device.part j.block xs)
    -- its own cycles are accepted, cut nothing and bring the block to what is wanted; they lead to what is left, and begin that list
    pub own_accepted : accepts_all j.device (world_of j.state xs) own_held ≡ true
    pub own_brings : Brings j.device (world_of j.state xs) j.block w own_held
    pub own_leads : world_after j.device (world_of j.state xs) own_held ≡ world_of held_end.state held_end.bytes
    pub own_begins : noted_all (begun_over j.device (world_of j.state xs) own_held) ≡ held_begins
    -- no uncut cycles from the same start to the same block contents begin fewer erases of that block or fewer programs in it
    pub least_wear : Cells j.device.part xs → (other : List Bus) → Brings j.device (world_of j.state xs) j.block w other
        → NoFewer j.device (world_of j.state xs) j.block own_held other
    -- the reported count is the number of cycles made ..
    pub counted : (held_ran held_end).count ≡ length held_cycles
    -- .. the formula's, and what the interruptions add
    pub by_formula : (held_ran held_end).count
        ≡ formula_by verify j.device w (held_by j.device.part j.block xs)
        + (if rises_in w (held_by j.device.part j.block xs) then added_in j.device bs ps 0 j.device.erase else 0)
    -- .. at most S + k + 4 for each of them
    pub at_most : (held_ran held_end).count ≤ formula_by verify j.device w (held_by j.device.part j.block xs)
        + interruptions ps 0 j.device.erase * (j.device.suspend + length bs + 4)
    -- the counts of erases: that of the block has gone up by the erases begun, up to the stop; every other is as it was
    pub worn_block : count_of j.state.wear j.block ≤ stop → count_of held_end.state.wear j.block
        ≡ min (count_of j.state.wear j.block + total_of (erase_of j.block) held_begins) stop
    pub worn_others : (i : ℕ) → i < 7 → (i ≡ j.block → ⊥) → count_of held_end.state.wear i ≡ count_of j.state.wear i
    -- scratch ends as wanted
    pub scratch_left : held_end.scratch ≡ w
    -- and the room holds the array's units at the addresses where an interruption was made; past them, and with none made, it is as it was
    pub room_left : held_end.room
        ≡ (if rises_in w (held_by j.device.part j.block xs) && interrupts ps 0 j.device.erase then filled_by xs bs room else room)
