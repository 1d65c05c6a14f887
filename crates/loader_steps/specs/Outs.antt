-- The cycle that is out. Addresses are those of units, and what is wanted is a list of units.
use Rattle.std.specs.Prelude.{Bool, List, ℕ, get_or, if◌then◌else◌}
use Rattle.units.specs.Address.{byte_at}
use Rattle.model_types.specs.declared.Kind.{Kind}
use Rattle.model_types.specs.declared.Cycle.{Cycle}
use Rattle.loader.specs.declared.Stage.{Stage}
use Rattle.loader.specs.declared.Loader.{Loader}
use Rattle.loader.specs.Stages.{stage_is}
use Rattle.loader_steps.specs.Addresses.{first_address}
use Rattle.loader_steps.specs.Inner.{here_of}

-- the byte address of the byte that differs there: in word mode the low one of its word, or the high one
unfoldable pub byte_here : Loader → ℕ
byte_here l = byte_at l.part.word (here_of l) l.high

-- a cycle at an address with the record's levels, OE# normal (R-load-6)
abbrev pub cycle_at : Loader → Kind → ℕ → ℕ → Cycle
cycle_at l kind address carried = record { kind = kind; pins = l.pins; oe = 0; address = address; «data» = carried }

-- where it goes: to the unit at the record's place, or to the block's first address (R-load-6)
abbrev pub address_in : Bool → ℕ → ℕ → ℕ
address_in isHere first here = if isHere then here else first

-- what it carries: the wanted unit of the record's place, or a command
abbrev pub carried_in : Bool → ℕ → ℕ → List ℕ → ℕ
carried_in isWanted command place w = if isWanted then get_or w place 0 else command

-- the cycle that is out, as its stage says
abbrev pub cycle_at_stage : Stage → ℕ → ℕ → Loader → List ℕ → Cycle
cycle_at_stage stage first here l w =
    cycle_at l (stage_is stage).kind (address_in (stage_is stage).here first here)
    (carried_in (stage_is stage).wanted (stage_is stage).command l.place w)

-- .. as the record's own stage says
abbrev pub cycle_of : Loader → List ℕ → Cycle
cycle_of l w = cycle_at_stage l.stage (first_address l) (here_of l) l w
