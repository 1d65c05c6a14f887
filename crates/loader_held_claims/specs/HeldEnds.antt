-- How a load with interruptions ends that nothing refuses, whatever VPP and RP#: as the old one, with what interruptions add to it. bs are
-- the addresses read, ps the polls told.
use Rattle.std.specs.Prelude.{◌≡◌, Bool, true, ◌&&◌, List, [], ◌∷◌, ℕ, ◌+◌, length, eqb, if◌then◌else◌}
use Rattle.device.specs.declared.Device.{Device}
use Rattle.device.specs.Parts.{start_of}
use Rattle.model_types.specs.declared.Pins.{Pins}
use Rattle.model_types.specs.declared.Kind.TheVariants.{Read, Write}
use Rattle.model_types.specs.declared.Cycle.{Cycle}
use Rattle.model_types.specs.declared.Mode.TheVariants.{Array}
use Rattle.loader_walk.specs.Walks.{rises_in}
use Rattle.loader.specs.Stages.{is_ended}
use Rattle.loader_run.specs.declared.Ran.{Ran}
use Rattle.loader_run.specs.Runs.{ran_by, beginning, doing}
use Rattle.loader_run_claims.specs.Wear.{begun_at, held_in, programs_in}
use Rattle.loader_run_claims.specs.Made.{bus_cycle, opening_then, closing_by, programming_then}
use Rattle.loader_run_claims.specs.Ends.{end_number, ran_as, bytes_as, scratch_as, cycles_as}
use Rattle.loader_held.specs.Holds.{listed, usual}
use Rattle.loader_held_run.specs.HeldTurns.{HeldConfig, bare, beside}
use Rattle.loader_held_claims.specs.HeldMade.{HeldReach, filled_by, erase_polls, interrupts, added_in}
use Rattle.loader.specs.declared.Work.TheVariants.{Load}
use Rattle.loader_run.specs.declared.Job.{Job}

-- an erase is begun: some bit must rise, and it can start
unfoldable pub erases : Device → Pins → ℕ → List ℕ → List ℕ → Bool
erases d p k w ys = rises_in w ys && eqb (end_number d p k w ys) 0

-- the one poll of an erase that cannot start; interrupted, B0H and 70H come before it, and its error bits end the load all the same
abbrev pub tried_poll : Pins → ℕ → List ℕ → List Cycle
tried_poll p a ps = if listed 1 ps then bus_cycle p Write a 0xB0 ∷ bus_cycle p Write a 0x70 ∷ bus_cycle p Read a 0 ∷ []
    else bus_cycle p Read a 0 ∷ []

-- .. how many cycles the interruption adds there
abbrev pub added_tried : List ℕ → ℕ
added_tried ps = if listed 1 ps then 2 else 0

-- the cycles that interruptions add, whatever the end
unfoldable pub added_by : Device → Pins → ℕ → List ℕ → List ℕ → List ℕ → List ℕ → ℕ
added_by d p k w ys bs ps = if rises_in w ys then (if eqb (end_number d p k w ys) 0 then added_in d bs ps 0 d.erase else added_tried ps)
    else 0

-- an interruption in the last poll's place leaves the device in read array: it is seen where nothing is programmed after the erase
unfoldable pub ends_turned : Device → Pins → ℕ → List ℕ → List ℕ → List ℕ → Bool
ends_turned d p k w ys ps = (erases d p k w ys && eqb (programs_in d.part w ys) 0) && listed d.erase ps

-- what the old load returns, with cycles more, and in read array where `turned` says so
abbrev pub ran_more : Ran → ℕ → Bool → Ran
ran_more r added turned =
    record {
      count = r.count + added;
      end = r.end;
      address = r.address;
      state =
          record {
            mode = if turned then Array
                else r.state.mode;
            status = r.state.status;
            phase = r.state.phase;
            left = r.state.left;
            address = r.state.address;
            wear = r.state.wear;
          };
    }

-- what the load with interruptions returns, by what the old load returns
unfoldable pub held_ran_as : Bool → Job → List ℕ → List ℕ → List ℕ → List ℕ → Ran
held_ran_as verify j w ys bs ps =
    ran_more (ran_as verify j w ys) (added_by j.device j.pins j.block w ys bs ps)
    (ends_turned j.device j.pins j.block w ys ps)

-- the room: the array's units at the addresses where an interruption was made, else as it was
unfoldable pub room_as : Device → Pins → ℕ → List ℕ → List ℕ → List ℕ → List ℕ → List ℕ → List ℕ → List ℕ
room_as d p k w ys xs bs ps room = if erases d p k w ys && interrupts ps 0 d.erase then filled_by xs bs room else room

-- the cycles: those of the old load, with interruptions in the erase's polls' places
unfoldable pub held_cycles_as : Bool → Device → Pins → ℕ → ℕ → List ℕ → List ℕ → List ℕ → List ℕ → List Cycle
held_cycles_as verify d p k a w ys bs ps =
    if rises_in w ys
    then opening_then p a (length w) (bus_cycle p Write a 0x20 ∷ bus_cycle p Write a 0xD0
    ∷ (if eqb (end_number d p k w ys) 0
    then erase_polls d p a bs ps 0 d.erase (programming_then d p a w ys (closing_by verify p a (length w))) else tried_poll p a ps))
    else cycles_as verify d p k a w ys

-- such a load comes to an end where it returns and leaves that; it begins what the old load begins, makes those cycles, and the model
-- refuses none of them and none cuts an operation
pub record HeldEnds (verify : Bool) (j : Job) (xs w sc bs ps room : List ℕ) : Type 0 where
  pub last : HeldConfig
  pub reach : HeldReach j.device w bs ps (beside (beginning (doing (Load verify) j) xs sc) (usual 0) room) last
      (begun_at (doing (Load verify) j) xs w sc)
      (held_cycles_as verify j.device j.pins j.block (start_of j.device.part j.block) w
      (held_in (start_of j.device.part j.block) (length w) xs) bs ps)
  pub ended : is_ended last.loader.stage ≡ true
  pub ran : ran_by (bare last) ≡ held_ran_as verify j w (held_in (start_of j.device.part j.block) (length w) xs) bs ps
  pub bytes : last.bytes
      ≡ bytes_as j.device j.pins j.block (start_of j.device.part j.block) w
      (held_in (start_of j.device.part j.block) (length w) xs) xs
  pub scratch : last.scratch ≡ scratch_as j.device j.pins j.block w (held_in (start_of j.device.part j.block) (length w) xs)
  pub filled : last.room
      ≡ room_as j.device j.pins j.block w (held_in (start_of j.device.part j.block) (length w) xs) xs bs ps room
