-- A run whose erase is interrupted, on lent bytes: its tests, its beginning, and what it returns and leaves.
use Rattle.std.specs.Prelude.{Bool, List, ◌++◌, ℕ, ◌+◌, ◌*◌, length, eqb, if◌then◌else◌}
use Rattle.common.specs.Numbers.{Row}
use Rattle.units.specs.Units.{units, spare, back}
use Rattle.device.specs.declared.Device.{Device}
use Rattle.model_types.specs.declared.State.{State}
use Rattle.loader.specs.declared.Loader.{Loader}
use Rattle.loader.specs.Stages.{end_by}
use Rattle.loader_steps.specs.Front.{end_address}
use Rattle.loader_run.specs.declared.Ran.{Ran}
use Rattle.loader_run.specs.Inner.{bound}
use Rattle.loader_run.specs.Runs.{lent_rows, beginning, run_first}
use Rattle.loader_held_lists.specs.Listings.{held_rows}
use Rattle.loader_held.specs.declared.Hold.{Hold}
use Rattle.loader_held.specs.Holds.{usual}
use Rattle.loader_held_run.specs.Inner.{pause_bound}
use Rattle.loader_held_run.specs.HeldTurns.{HeldConfig, held_after, beside}
use Rattle.loader_run.specs.declared.Job.{Job}

-- the tests of such a run of so many lent bytes, in their order: a run's, then those of the addresses and the room (R-held-3)
abbrev pub held_run_rows : Job → ℕ → ℕ → ℕ → List ℕ → ℕ → List Row
held_run_rows j array wanted scratch bs room = lent_rows j array wanted scratch ++ held_rows j.device.part j.block bs room

-- the first refusal of such a run, 0 where nothing refuses
abbrev pub held_run_number : Job → ℕ → ℕ → ℕ → List ℕ → ℕ → ℕ
held_run_number j array wanted scratch bs room = run_first (held_run_rows j array wanted scratch bs room)

-- such a load under way, written out
abbrev pub held_conf : Loader → Hold → State → List ℕ → List ℕ → List ℕ → ℕ → HeldConfig
held_conf l h s xs sc room count = record { loader = l; hold = h; state = s; bytes = xs; scratch = sc; room = room; count = count }

-- the turns that the definition makes: no interrupted load of n units with k readings takes more (`always_ends`)
unfoldable pub held_bound : ℕ → ℕ → ℕ
held_bound n k = 4294967295 * pause_bound n k + (bound n + (k + 65540))

-- the load made to its end
unfoldable pub held_driven : Device → List ℕ → List ℕ → List ℕ → HeldConfig → HeldConfig
held_driven d w bs ps c = held_after (held_bound (length w) (length bs)) d w bs ps c

-- a job's beginning, no interruption under way
abbrev pub held_beginning : Job → List ℕ → List ℕ → List ℕ → HeldConfig
held_beginning j xs sc room = beside (beginning j xs sc) (usual 0) room

-- what is returned of such a load under way
abbrev pub held_ran : HeldConfig → Ran
held_ran c =
    record {
      count = c.count;
      end = end_by c.loader.stage;
      address = end_address c.loader (end_by c.loader.stage);
      state = c.state;
    }

-- what is returned of a run that is refused: no cycle is counted
abbrev pub ran_refused : ℕ → State → Ran
ran_refused n s = record { count = 0; end = n; address = 0; state = s }

-- what such a run returns and leaves: its result, the array, scratch and the room
pub record HeldLeft : Type 0 where
  pub ran : Ran
  pub bytes : List ℕ
  pub scratch : List ℕ
  pub room : List ℕ

-- .. of a load that was made, as bytes again; in word mode an odd byte of the room stays
abbrev pub held_left : Bool → HeldConfig → List ℕ → HeldLeft
held_left word c odd =
    record { ran = held_ran c; bytes = back word c.bytes; scratch = back word c.scratch; room = back word c.room ++ odd }

-- .. of a run that is refused: nothing is touched
abbrev pub held_refused : ℕ → State → List ℕ → List ℕ → List ℕ → HeldLeft
held_refused n s array scratch room = record { ran = ran_refused n s; bytes = array; scratch = scratch; room = room }

-- the load of lent bytes by their units, made to its end
abbrev pub held_done : Job → List ℕ → List ℕ → List ℕ → List ℕ → List ℕ → List ℕ → HeldConfig
held_done j array wanted scratch ps bs room =
    held_driven j.device (units j.device.part.word wanted) bs ps
    (held_beginning j (units j.device.part.word array) (units j.device.part.word scratch) (units j.device.part.word room))

-- an interrupted run of lent bytes, a load with the verify after it or without: refused by its number, or made to its end
unfoldable pub lent_held : Job → List ℕ → List ℕ → List ℕ → List ℕ → List ℕ → List ℕ → HeldLeft
lent_held j array wanted scratch ps bs room =
    if eqb (held_run_number j (length array) (length wanted) (length scratch) bs (length room)) 0
    then held_left j.device.part.word (held_done j array wanted scratch ps bs room) (spare j.device.part.word room)
    else held_refused (held_run_number j (length array) (length wanted) (length scratch) bs (length room)) j.state array scratch room
