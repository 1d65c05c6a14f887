-- What interruptions add to a load, worked out without making them: the listed polls are met one after the other, each adds its cycles, and
-- the room is filled once. bs are the addresses read, ps the polls told.
use Rattle.std.specs.Prelude.{◌≡◌, Bool, true, false, ◌&&◌, List, ℕ, ◌+◌, ◌*◌, ◌≤◌, ◌<◌, eqb, ltb, leb, if◌then◌else◌}
use Rattle.device.specs.declared.Device.{Device}
use Rattle.units.specs.Units.{units}
use Rattle.loader_run.specs.declared.Job.{Job}
use Rattle.loader_run.specs.declared.Ran.{Ran}
use Rattle.loader_held_run.specs.HeldRuns.{HeldLeft}
use Rattle.loader_quick.specs.Quick.{held_units}
use Rattle.loader_held.specs.Holds.{listed}
use Rattle.loader_held_claims.specs.HeldMade.{waits_of, interrupts, added_in}
use Rattle.loader_held_claims.specs.HeldEnds.{erases, added_tried, added_by}
use Rattle.loader_held_ends.specs.HeldLent.{room_in}
use Rattle.loader_held_quick.specs.declared.Extra.{Extra}

-- r is the lowest number that is listed from `from` on, or `past` where none below it is
pub record NextListed (from past : ℕ) (ps : List ℕ) (r : ℕ) : Type 0 where
  pub least : from ≤ r
  pub most : r ≤ past
  pub met : r < past → listed r ps ≡ true
  pub none : (i : ℕ) → from ≤ i → i < r → listed i ps ≡ false

-- of two numbers the lower one, where it is not below `from`
unfoldable pub lower_of : ℕ → ℕ → ℕ → ℕ
lower_of from r p = if leb from p && ltb p r then p else r

-- what an interruption for k readings adds, in the place of the erase's last poll or of one before it
unfoldable pub cost_at : ℕ → ℕ → Bool → ℕ
cost_at suspend k last = k + 3 + (if last then 0 else waits_of suspend)

-- the count of a good load of n units with an erase and no program, the verify after it or not
unfoldable pub bare_count : Bool → ℕ → ℕ → ℕ
bare_count verify n erase = if verify then 2 * n + 3 + (2 + erase) else n + 2 + (2 + erase)

-- an interruption in the last poll's place, and nothing programmed: the count is the bare one
unfoldable pub turned_by : Bool → Bool → ℕ → ℕ → ℕ → Bool
turned_by verify last n erase count = last && eqb count (bare_count verify n erase)

-- what interruptions come to in an erase that begins
abbrev pub erasing_of : Device → List ℕ → List ℕ → Extra
erasing_of d bs ps = record { cycles = added_in d bs ps 0 d.erase; last = listed d.erase ps }

-- what interruptions come to in a job on lent bytes: the cycles that they add, and whether one stands in the last poll's place
abbrev pub extra_of : Job → List ℕ → List ℕ → List ℕ → List ℕ → Extra
extra_of j array wanted bs ps =
    record {
      cycles = added_by j.device j.pins j.block (units j.device.part.word wanted)
          (held_units j.device.part j.block array wanted) bs ps;
      last = erases j.device j.pins j.block (units j.device.part.word wanted)
          (held_units j.device.part j.block array wanted) && listed j.device.erase ps;
    }

-- .. what becomes of the room
abbrev pub room_for : Job → List ℕ → List ℕ → List ℕ → List ℕ → List ℕ → List ℕ
room_for j array wanted bs ps room =
    if erases j.device j.pins j.block (units j.device.part.word wanted)
    (held_units j.device.part j.block array wanted) && interrupts ps 0 j.device.erase
    then room_in j.device.part.word array bs room else room

-- what interruptions come to, by whether a bit must rise and whether no operation can start
abbrev pub extra_by : Bool → Bool → Device → List ℕ → List ℕ → Extra
extra_by true true d bs ps = record { cycles = added_tried ps; last = false }
extra_by true false d bs ps = erasing_of d bs ps
extra_by false stuck d bs ps = record { cycles = 0; last = false }

-- .. what becomes of the room, with what it is when filled
abbrev pub room_by : Bool → Bool → Device → List ℕ → List ℕ → List ℕ → List ℕ
room_by true true d ps filled room = room
room_by true false d ps filled room = if interrupts ps 0 d.erase then filled else room
room_by false stuck d ps filled room = room

-- what such a run returned and left, as one
abbrev pub held_as : Ran → List ℕ → List ℕ → List ℕ → HeldLeft
held_as r array scratch room = record { ran = r; bytes = array; scratch = scratch; room = room }
