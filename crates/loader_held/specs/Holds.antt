-- An erase that is interrupted for readings: the moves of an interruption beside those of the loader. Told are the polls of the erase
-- to interrupt (ps) and the addresses to read each time (bs, k of them). In a listed poll's place come B0H, 70H, polls until SR.7, FFH,
-- k reads into the room and, where SR.6 was set, D0H; the loader's own record waits meanwhile. What is wanted, scratch and the room are
-- lists of units, the polls and the addresses lists of numbers.
use Rattle.std.specs.Prelude.{Bool, false, List, ℕ, ◌+◌, ◌/◌, ◌%◌, get_or, set, eqb, ltb, leb, if◌then◌else◌}
use Rattle.units.specs.Units.{carried}
use Rattle.loader_held_lists.specs.Listings.{some_of}
use Rattle.model_types.specs.declared.Kind.TheVariants.{Read, Write}
use Rattle.model_types.specs.declared.Cycle.{Cycle}
use Rattle.loader.specs.declared.Stage.{Stage}
use Rattle.loader.specs.declared.Stage.TheVariants.{Clearing, Opening, Reading, EraseAsking, EraseConfirming, EraseWaiting, ProgramAsking}
use Rattle.loader.specs.declared.Stage.TheVariants.{ProgramSending, ProgramWaiting, Closing, Verifying, Ended}
use Rattle.loader.specs.declared.Loader.{Loader}
use Rattle.loader_moves.specs.Moves.{next_of, moved_to, ended_by}
use Rattle.loader.specs.Statuses.{status_in, is_ready, erase_end}
use Rattle.loader_moves.specs.Inner.{past}
use Rattle.loader_steps.specs.Addresses.{first_address}
use Rattle.loader_steps.specs.Outs.{cycle_of, cycle_at}
use Rattle.loader_stores.specs.Stores.{store_of}
use Rattle.loader_held.specs.declared.Step.{Step}
use Rattle.loader_held.specs.declared.Step.TheVariants.{Usual, Halting, Looking, Settling, ArrayAsking, Fetching, Resuming}
use Rattle.loader_held.specs.declared.Hold.{Hold}
use Rattle.loader_held.specs.declared.Pair.{Pair}

-- poll n of the erase is to be interrupted: the list may be in any order and may name a poll twice (R-held-1)
unfoldable pub listed : ℕ → List ℕ → Bool
listed n ps = some_of (λ p. eqb p n) ps

-- SR.6 of a status
abbrev pub sr6 : ℕ → Bool
sr6 sr = eqb (sr / 0x40 % 2) 1

-- where an interruption stands: the cycle that is out, the number of the erase's poll, the place among the addresses, the polls of its
-- own wait, whether the erase was found suspended (SR.6)
abbrev pub hold_as : Step → ℕ → ℕ → ℕ → Bool → Hold
hold_as step number place waits suspended = record { step = step; number = number; place = place; waits = waits; suspended = suspended }

-- no interruption under way; n is the number of the erase's last poll, that of the poll that is out where one is. Before the first it is 0
abbrev pub usual : ℕ → Hold
usual n = hold_as Usual n 0 0 false

-- an interruption's record at another cycle
abbrev pub held_to : Hold → Step → Hold
held_to h step = hold_as step h.number 0 0 h.suspended

-- the loader's record beside that of an interruption
abbrev pub pair_of : Loader → Hold → Pair
pair_of l h = record { loader = l; hold = h }

-- after poll n of the erase comes poll n + 1: an interruption in its place where it is listed. So the first poll has number 1, an entry
-- 0 is never met, and an interrupted poll keeps its number. Numbers stop at 4,294,967,295, and a poll that gets no new number is not
-- interrupted: no list of polls goes on for ever (R-held-1)
unfoldable pub after_poll : ℕ → List ℕ → Hold
after_poll n ps =
    if ltb n 4294967295 then (if listed (n + 1) ps then hold_as Halting (n + 1) 0 0 false else usual (n + 1))
    else usual n

-- by the stage to which the loader has moved: at one stage alone the cycle that comes next is a poll of the erase
abbrev pub numbered : Stage → ℕ → List ℕ → Hold
numbered Clearing n ps = usual n
numbered Opening n ps = usual n
numbered Reading n ps = usual n
numbered EraseAsking n ps = usual n
numbered EraseConfirming n ps = usual n
numbered EraseWaiting n ps = after_poll n ps
numbered ProgramAsking n ps = usual n
numbered ProgramSending n ps = usual n
numbered ProgramWaiting n ps = usual n
numbered Closing n ps = usual n
numbered Verifying n ps = usual n
numbered (Ended e) n ps = usual n

-- the loader has moved, and the erase's last poll before had number n
abbrev pub moved_on : Loader → ℕ → List ℕ → Pair
moved_on l n ps = pair_of l (numbered l.stage n ps)

-- the load ends by a number
abbrev pub stopped : Loader → Hold → ℕ → Pair
stopped l h n = pair_of (ended_by l n) (usual h.number)

-- a poll of the suspend's own wait is in. Ready, its status is judged at once: 21, 22 or 23, else FFH comes next. Not ready, another
-- poll comes, or 20 as the 65,535th of this wait is taken (R-held-1, R-held-2)
unfoldable pub settled_by : Loader → Hold → ℕ → Pair
settled_by l h sr =
    if is_ready sr then (if eqb (erase_end sr) 0 then pair_of l (hold_as ArrayAsking h.number 0 0 (sr6 sr)) else stopped l h (erase_end sr))
    else if leb 65534 h.waits then stopped l h 20
    else pair_of l (hold_as Settling h.number 0 (h.waits + 1) false)

-- FFH or a read is done, and address i of k comes next. After the last one D0H comes where the erase was found suspended; else it was
-- found finished, and the loader goes on as after a ready poll without a fault (R-held-1)
unfoldable pub fetch_on : Loader → Hold → ℕ → ℕ → List ℕ → List ℕ → Pair
fetch_on l h i k w sc =
    if ltb i k then pair_of l (hold_as Fetching h.number i 0 h.suspended)
    else if h.suspended then pair_of l (held_to h Resuming)
    else pair_of (next_of l 0x80 w (store_of l 0x80 w sc)) (usual h.number)

-- .. and what that does to scratch: as that ready poll, it fills it with ones
unfoldable pub fetch_stored : Loader → Hold → ℕ → ℕ → List ℕ → List ℕ → List ℕ
fetch_stored l h i k w sc = if ltb i k then sc else if h.suspended then sc else store_of l 0x80 w sc

-- D0H is done and the erase goes on: its polls are counted afresh for 20, and their numbers go on (R-held-2)
abbrev pub resumed : Loader → Hold → List ℕ → Pair
resumed l h ps = pair_of (moved_to l EraseWaiting 0 0) (after_poll h.number ps)

-- both records after the data of the cycle that was out, by the scratch before them; k is the number of addresses (R-held-1)
abbrev pub held_next : Step → Loader → Hold → ℕ → ℕ → List ℕ → List ℕ → List ℕ → Pair
held_next Usual l h v k w sc ps = moved_on (next_of l v w (store_of l v w sc)) h.number ps
held_next Halting l h v k w sc ps = pair_of l (held_to h Looking)
held_next Looking l h v k w sc ps = pair_of l (held_to h Settling)
held_next Settling l h v k w sc ps = settled_by l h (status_in v)
held_next ArrayAsking l h v k w sc ps = fetch_on l h 0 k w sc
held_next Fetching l h v k w sc ps = fetch_on l h (past h.place k) k w sc
held_next Resuming l h v k w sc ps = resumed l h ps

-- .. scratch after them
abbrev pub held_scratch : Step → Loader → Hold → ℕ → ℕ → List ℕ → List ℕ → List ℕ
held_scratch Usual l h v k w sc = store_of l v w sc
held_scratch Halting l h v k w sc = sc
held_scratch Looking l h v k w sc = sc
held_scratch Settling l h v k w sc = sc
held_scratch ArrayAsking l h v k w sc = fetch_stored l h 0 k w sc
held_scratch Fetching l h v k w sc = fetch_stored l h (past h.place k) k w sc
held_scratch Resuming l h v k w sc = sc

-- .. and the room: a unit read goes to its place, the rest stays (R-held-1)
abbrev pub held_room : Step → Bool → Hold → ℕ → List ℕ → List ℕ
held_room Usual word h v room = room
held_room Halting word h v room = room
held_room Looking word h v room = room
held_room Settling word h v room = room
held_room ArrayAsking word h v room = room
held_room Fetching word h v room = set room h.place (carried word v)
held_room Resuming word h v room = room

-- the cycle that is out: commands and polls to the block's first address, reads to theirs (R-held-1)
abbrev pub held_cycle : Step → Loader → Hold → List ℕ → List ℕ → Cycle
held_cycle Usual l h w bs = cycle_of l w
held_cycle Halting l h w bs = cycle_at l Write (first_address l) 0xB0
held_cycle Looking l h w bs = cycle_at l Write (first_address l) 0x70
held_cycle Settling l h w bs = cycle_at l Read (first_address l) 0
held_cycle ArrayAsking l h w bs = cycle_at l Write (first_address l) 0xFF
held_cycle Fetching l h w bs = cycle_at l Read (get_or bs h.place 0) 0
held_cycle Resuming l h w bs = cycle_at l Write (first_address l) 0xD0
