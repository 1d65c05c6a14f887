-- What such a load begins, the cycles that it makes, and what an interruption costs and reads.
use Rattle.std.specs.Prelude.{◌≡◌, Bool, true, false, ◌&&◌, ◌||◌, List, [], ◌∷◌, ℕ, zero, suc, ◌+◌, ◌-◌, ◌<◌, length, get_or, eqb, ltb}
use Rattle.std.specs.Prelude.{if◌then◌else◌}
use Rattle.common.specs.Lists.{overwritten}
use Rattle.device.specs.declared.Device.{Device}
use Rattle.device.specs.Parts.{size_of, block_of}
use Rattle.model_types.specs.declared.Pins.{Pins}
use Rattle.model_types.specs.declared.Kind.TheVariants.{Read, Write}
use Rattle.model_types.specs.declared.Cycle.{Cycle}
use Rattle.model_types.specs.declared.Effect.{Effect}
use Rattle.model_types.specs.declared.Effect.TheVariants.{Nothing}
use Rattle.model_rules.specs.Cycles.{decide_of}
use Rattle.model.specs.Begun.{begun_by}
use Rattle.loader.specs.declared.Stage.{Stage}
use Rattle.loader.specs.declared.Stage.TheVariants.{Clearing, Opening, Reading, EraseAsking, EraseConfirming, EraseWaiting, ProgramAsking}
use Rattle.loader.specs.declared.Stage.TheVariants.{ProgramSending, ProgramWaiting, Closing, Verifying, Ended}
use Rattle.loader.specs.Stages.{is_ended}
use Rattle.loader_run_claims.specs.Wear.{noted}
use Rattle.loader_run_claims.specs.Made.{bus_cycle, polls_then, is_smooth}
use Rattle.loader_held.specs.Holds.{listed}
use Rattle.loader_held_run.specs.HeldTurns.{HeldConfig, out_of, held_turn, held_after}

-- what k turns begin, the cycles that they make, and that none is refused or cuts
unfoldable pub held_begun_turn : Device → List ℕ → List ℕ → HeldConfig → Effect
held_begun_turn d w bs c = if is_ended c.loader.stage then Nothing else begun_by d c.state (out_of w bs c) (length c.bytes) 0

-- .. what k turns begin, in their order
abbrev pub held_begun : ℕ → Device → List ℕ → List ℕ → List ℕ → HeldConfig → List Effect
held_begun zero d w bs ps c = []
held_begun (suc k) d w bs ps c = noted (held_begun_turn d w bs c) (held_begun k d w bs ps (held_turn d w bs ps c))

-- .. the cycles that k turns make
abbrev pub held_made : ℕ → Device → List ℕ → List ℕ → List ℕ → HeldConfig → List Cycle
held_made zero d w bs ps c = []
held_made (suc k) d w bs ps c =
    if is_ended c.loader.stage then held_made k d w bs ps (held_turn d w bs ps c)
    else out_of w bs c ∷ held_made k d w bs ps (held_turn d w bs ps c)

-- the cycle of a turn is not refused and cuts nothing
unfoldable pub held_smooth_turn : Device → List ℕ → List ℕ → HeldConfig → Bool
held_smooth_turn d w bs c = if is_ended c.loader.stage then true else is_smooth (decide_of d c.state (out_of w bs c) (length c.bytes) 0)

-- .. of each of k turns
abbrev pub held_smooth : ℕ → Device → List ℕ → List ℕ → List ℕ → HeldConfig → Bool
held_smooth zero d w bs ps c = true
held_smooth (suc k) d w bs ps c = held_smooth_turn d w bs c && held_smooth k d w bs ps (held_turn d w bs ps c)

-- some turns lead from c to e, begin the operations es and make the cycles cs, and none is refused or cuts
pub record HeldReach (d : Device) (w bs ps : List ℕ) (c e : HeldConfig) (es : List Effect) (cs : List Cycle) : Type 0 where
  pub turns : ℕ
  pub there : held_after turns d w bs ps c ≡ e
  pub begun : held_begun turns d w bs ps c ≡ es
  pub made : held_made turns d w bs ps c ≡ cs
  pub smooth : held_smooth turns d w bs ps c ≡ true

-- the addresses: inside the array, and in other blocks
pub record Elsewhere (d : Device) (k : ℕ) (bs : List ℕ) : Type 0 where
  pub inside : (i : ℕ) → i < length bs → get_or bs i 0 < size_of d.part
  pub other : (i : ℕ) → i < length bs → eqb (block_of d.part (get_or bs i 0)) k ≡ false

-- what the array holds at the addresses
abbrev pub read_at : List ℕ → List ℕ → List ℕ
read_at xs [] = []
read_at xs (b ∷ bs) = get_or xs b 0 ∷ read_at xs bs

-- the room after an interruption: the units at the addresses, and what it held past them
abbrev pub filled_by : List ℕ → List ℕ → List ℕ → List ℕ
filled_by xs bs room = overwritten (length bs) (read_at xs bs) room

-- reads of n addresses from place i on, then cs
abbrev pub fetches_then : Pins → ℕ → List ℕ → ℕ → List Cycle → List Cycle
fetches_then p zero bs i cs = cs
fetches_then p (suc n) bs i cs = bus_cycle p Read (get_or bs i 0) 0 ∷ fetches_then p n bs (i + 1) cs

-- the polls of a suspend's own wait: S - 1, and one where S is 1
abbrev pub waits_of : ℕ → ℕ
waits_of s = if ltb s 2 then 1 else s - 1

-- an interruption before the erase's last poll, and in its place
abbrev pub held_then : Device → Pins → ℕ → List ℕ → List Cycle → List Cycle
held_then d p a bs cs =
    bus_cycle p Write a 0xB0 ∷ bus_cycle p Write a 0x70
    ∷ polls_then p (waits_of d.suspend) a (bus_cycle p Write a 0xFF ∷ fetches_then p (length bs) bs 0 (bus_cycle p Write a 0xD0 ∷ cs))

-- an interruption in the place of the erase's last poll: the erase is found finished and not resumed
abbrev pub found_then : Pins → ℕ → List ℕ → List Cycle → List Cycle
found_then p a bs cs =
    bus_cycle p Write a 0xB0 ∷ bus_cycle p Write a 0x70 ∷ bus_cycle p Read a 0 ∷ bus_cycle p Write a 0xFF
    ∷ fetches_then p (length bs) bs 0 cs

-- no poll of the erase is to come after this one
abbrev pub is_last : ℕ → Bool
is_last zero = true
is_last (suc left) = false

-- the polls of an erase with so many to come, the last one having had number n; what stands in their place, then cs
abbrev pub erase_polls : Device → Pins → ℕ → List ℕ → List ℕ → ℕ → ℕ → List Cycle → List Cycle
erase_polls d p a bs ps n zero cs = cs
erase_polls d p a bs ps n (suc left) cs =
    if listed (n + 1) ps
    then (if is_last left then found_then p a bs cs else held_then d p a bs (erase_polls d p a bs ps (n + 1) left cs))
    else bus_cycle p Read a 0 ∷ erase_polls d p a bs ps (n + 1) left cs

-- .. how many cycles those are, and the room after them
abbrev pub polls_cost : Device → List ℕ → List ℕ → ℕ → ℕ → ℕ
polls_cost d bs ps n zero = 0
polls_cost d bs ps n (suc left) =
    (if listed (n + 1) ps then length bs + 4 + (if is_last left then 0 else waits_of d.suspend) else 1) + polls_cost d bs ps (n + 1) left

-- .. the room after them
abbrev pub room_over : List ℕ → List ℕ → List ℕ → ℕ → ℕ → List ℕ → List ℕ
room_over xs bs ps n zero room = room
room_over xs bs ps n (suc left) room = room_over xs bs ps (n + 1) left (if listed (n + 1) ps then filled_by xs bs room else room)

-- some poll of the m after number n is interrupted, and how many are
abbrev pub interrupts : List ℕ → ℕ → ℕ → Bool
interrupts ps n zero = false
interrupts ps n (suc m) = listed (n + 1) ps || interrupts ps (n + 1) m

-- how many polls of the m after number n are interrupted
abbrev pub interruptions : List ℕ → ℕ → ℕ → ℕ
interruptions ps n zero = 0
interruptions ps n (suc m) = (if listed (n + 1) ps then 1 else 0) + interruptions ps (n + 1) m

-- what an interruption in one poll's place adds, so many polls being still to come: k + 3 + max(1, S - 1), and k + 3 in the last one's
-- (R-held-2)
abbrev pub added_at : Device → List ℕ → ℕ → ℕ
added_at d bs left = length bs + 3 + (if is_last left then 0 else waits_of d.suspend)

-- .. and what all of them add that stand in the places of the polls to come after number n
abbrev pub added_in : Device → List ℕ → List ℕ → ℕ → ℕ → ℕ
added_in d bs ps n zero = 0
added_in d bs ps n (suc left) = (if listed (n + 1) ps then added_at d bs left else 0) + added_in d bs ps (n + 1) left

-- a poll of the erase is out
abbrev pub polls_erase : Stage → Bool
polls_erase Clearing = false
polls_erase Opening = false
polls_erase Reading = false
polls_erase EraseAsking = false
polls_erase EraseConfirming = false
polls_erase EraseWaiting = true
polls_erase ProgramAsking = false
polls_erase ProgramSending = false
polls_erase ProgramWaiting = false
polls_erase Closing = false
polls_erase Verifying = false
polls_erase (Ended n) = false
