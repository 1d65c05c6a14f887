-- A recording as a history: each record is one cycle of the model, on a device of the record's own busy time.
use Rattle.std.specs.Prelude.{Bool, true, not, ◌&&◌, ◌||◌, List, [], ◌∷◌, ℕ, eqb, length}
use Rattle.units.specs.Units.{lent}
use Rattle.device.specs.declared.Device.{Device}
use Rattle.model_types.specs.declared.Effect.{Effect}
use Rattle.model.specs.Begun.{begun_by}
use Rattle.model_history.specs.History.{Bus, World, world_of, stepped}
use Rattle.recording.specs.declared.Noted.{Noted}
use Rattle.recording.specs.Recordings.{starts, device_for}
use Rattle.recording_walk.specs.Lists.{Held, onward}
use Rattle.recording_claims.specs.Made.{time_used}

-- a record's cycle; no residue is lent, for none is needed
abbrev pub bus_of : Noted → Bus
bus_of r = record { cycle = r.cycle; residue = [] }

-- what is held, in units
abbrev pub units_of : Device → Held → World
units_of d v = world_of v.state (lent d.part.word v.bytes)

-- where the records lead, as a history
abbrev pub worlds_by : Device → World → List Noted → World
worlds_by d v [] = v
worlds_by d v (r ∷ rs) = worlds_by d (stepped (device_for d v.state r) v (bus_of r)) rs

-- what they begin
abbrev pub begun_in : Device → World → List Noted → List Effect
begun_in d v [] = []
begun_in d v (r ∷ rs) =
    begun_by (device_for d v.state r) v.state r.cycle (length v.bytes) 0
    ∷ begun_in d (stepped (device_for d v.state r) v (bus_of r)) rs

-- a device with other busy times
abbrev pub with_times : Device → ℕ → ℕ → Device
with_times d p e = record { part = d.part; program = p; erase = e; suspend = d.suspend }

-- the records' cycles, each with no residue
abbrev pub buses_in : List Noted → List Bus
buses_in [] = []
buses_in (r ∷ rs) = bus_of r ∷ buses_in rs

-- every start has the count that the device itself would use
abbrev pub own_times : Device → Held → List Noted → Bool
own_times d v [] = true
own_times d v (r ∷ rs) =
    (not (starts d.part v.state r.cycle) || eqb r.busy (time_used d v.state.phase)) && own_times d (onward d v r) rs
