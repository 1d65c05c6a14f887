-- The cycles that a load makes, by turning the definitions, and the list of a good load's cycles.
use Rattle.std.specs.Prelude.{Bool, true, not, ◌&&◌, List, [], ◌∷◌, ℕ, zero, suc, ◌+◌, length, get_or, eqb, if◌then◌else◌}
use Rattle.device.specs.declared.Device.{Device}
use Rattle.model_types.specs.declared.Pins.{Pins}
use Rattle.model_types.specs.declared.Kind.{Kind}
use Rattle.model_types.specs.declared.Kind.TheVariants.{Read, Write}
use Rattle.model_types.specs.declared.Cycle.{Cycle}
use Rattle.model_types.specs.declared.Decision.{Decision}
use Rattle.model_rules.specs.Cycles.{decide_of}
use Rattle.model.specs.Arrays.{is_refusal}
use Rattle.loader_steps.specs.Outs.{cycle_of}
use Rattle.loader_walk.specs.Walks.{rises_in}
use Rattle.loader_run.specs.Turns.{Config, turn_of}
use Rattle.loader_run.specs.Inner.{bound}
use Rattle.loader.specs.Stages.{is_ended}
use Rattle.loader_run_claims.specs.Wear.{base_of}
use Rattle.model_history.specs.History.{is_cut}
use Rattle.loader.specs.declared.Work.TheVariants.{Load}
use Rattle.loader_run.specs.declared.Job.{Job}
use Rattle.loader_run.specs.Runs.{beginning, doing}

-- the cycles that k turns make, in their order
abbrev pub made_in : ℕ → Device → List ℕ → Config → List Cycle
made_in zero d w c = []
made_in (suc k) d w c = if is_ended c.loader.stage then made_in k d w (turn_of d w c)
    else cycle_of c.loader w ∷ made_in k d w (turn_of d w c)

-- the cycles that a job makes up to its end
abbrev pub cycles_at : Job → List ℕ → List ℕ → List ℕ → List Cycle
cycles_at j xs w sc = made_in (bound (length w)) j.device w (beginning j xs sc)

-- .. by a run
abbrev pub cycles_of_load : Job → List ℕ → List ℕ → List ℕ → List Cycle
cycles_of_load j xs w sc = cycles_at (doing (Load true) j) xs w sc

-- the model takes the cycle, and the cycle cuts nothing
abbrev pub is_smooth : Decision → Bool
is_smooth x = not (is_refusal x.reply) && not (is_cut x.effect)

-- .. in one turn
unfoldable pub smooth_turn : Device → List ℕ → Config → Bool
smooth_turn d w c = if is_ended c.loader.stage then true
    else is_smooth (decide_of d c.state (cycle_of c.loader w) (length c.bytes) 0)

-- .. in each of k turns
abbrev pub smooth_in : ℕ → Device → List ℕ → Config → Bool
smooth_in zero d w c = true
smooth_in (suc k) d w c = smooth_turn d w c && smooth_in k d w (turn_of d w c)

-- .. by a job, up to its end
abbrev pub smooth_at : Job → List ℕ → List ℕ → List ℕ → Bool
smooth_at j xs w sc = smooth_in (bound (length w)) j.device w (beginning j xs sc)

-- a cycle of a load, OE# normal
abbrev pub bus_cycle : Pins → Kind → ℕ → ℕ → Cycle
bus_cycle p kind address byte = record { kind = kind; pins = p; oe = 0; address = address; «data» = byte }

-- the reads of n bytes from place i on of a block that starts at a, then cs
abbrev pub reads_then : Pins → ℕ → ℕ → ℕ → List Cycle → List Cycle
reads_then p zero a i cs = cs
reads_then p (suc n) a i cs = bus_cycle p Read (a + i) 0 ∷ reads_then p n a (i + 1) cs

-- n polls at x, then cs
abbrev pub polls_then : Pins → ℕ → ℕ → List Cycle → List Cycle
polls_then p zero x cs = cs
polls_then p (suc n) x cs = bus_cycle p Read x 0 ∷ polls_then p n x cs

-- 50H, FFH and the first reads, then cs (R-load-1)
abbrev pub opening_then : Pins → ℕ → ℕ → List Cycle → List Cycle
opening_then p a n cs = bus_cycle p Write a 0x50 ∷ bus_cycle p Write a 0xFF ∷ reads_then p n a 0 cs

-- 20H, D0H and E polls, then cs (R-load-2)
abbrev pub erase_then : Device → Pins → ℕ → List Cycle → List Cycle
erase_then d p a cs = bus_cycle p Write a 0x20 ∷ bus_cycle p Write a 0xD0 ∷ polls_then p d.erase a cs

-- 40H, the byte and P polls, all at the byte's address, then cs (R-load-3)
abbrev pub program_then : Device → Pins → ℕ → ℕ → List Cycle → List Cycle
program_then d p x b cs = bus_cycle p Write x 0x40 ∷ bus_cycle p Write x b ∷ polls_then p d.program x cs

-- a program for each of the k bytes from place i on where s differs from w, then cs
abbrev pub programs_then : Device → Pins → ℕ → ℕ → ℕ → List ℕ → List ℕ → List Cycle → List Cycle
programs_then d p zero a i w s cs = cs
programs_then d p (suc k) a i w s cs =
    if eqb (get_or s i 0) (get_or w i 0) then programs_then d p k a (i + 1) w s cs
    else program_then d p (a + i) (get_or w i 0) (programs_then d p k a (i + 1) w s cs)

-- the last FFH and the verify's reads (R-load-4)
abbrev pub closing_of : Pins → ℕ → ℕ → List Cycle
closing_of p a n = bus_cycle p Write a 0xFF ∷ reads_then p n a 0 []

-- .. where the verify follows the load, and nothing where it does not
abbrev pub closing_by : Bool → Pins → ℕ → ℕ → List Cycle
closing_by verify p a n = if verify then closing_of p a n else []

-- the programs from what the block holds after an erase, or without one, then cs
abbrev pub programming_then : Device → Pins → ℕ → List ℕ → List ℕ → List Cycle → List Cycle
programming_then d p a w ys cs = programs_then d p (length w) a 0 w (base_of d.part w ys) cs

-- the cycles of a good load of a block at a that holds ys, then cs
abbrev pub load_then : Device → Pins → ℕ → List ℕ → List ℕ → List Cycle → List Cycle
load_then d p a w ys cs =
    opening_then p a (length w) (if rises_in w ys then erase_then d p a (programming_then d p a w ys cs)
    else programming_then d p a w ys cs)

-- .. with or without the verify after it
abbrev pub cycles_by : Bool → Device → Pins → ℕ → List ℕ → List ℕ → List Cycle
cycles_by verify d p a w ys = load_then d p a w ys (closing_by verify p a (length w))

-- .. with it
abbrev pub cycles_of : Device → Pins → ℕ → List ℕ → List ℕ → List Cycle
cycles_of d p a w ys = cycles_by true d p a w ys
