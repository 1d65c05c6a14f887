-- A load with interruptions a step at a time: its start, its step, and their tests. The polls to interrupt are ps, the addresses to read
-- bs; the room is counted in bytes. What is wanted and scratch are lists of units: those of the lent bytes, of which an odd number makes
-- none in word mode.
use Rattle.std.specs.Prelude.{Bool, true, false, not, ◌&&◌, ◌||◌, List, [], ◌∷◌, ◌++◌, ℕ, length, get_or, eqb, ltb, leb, if◌then◌else◌}
use Rattle.common.specs.Numbers.{Row, row, given}
use Rattle.units.specs.Units.{units, spare, lent, back}
use Rattle.device.specs.declared.Part.{Part}
use Rattle.device.specs.Parts.{unknown_part}
use Rattle.model_types.specs.declared.Pins.{Pins}
use Rattle.model_types.specs.declared.Cycle.{Cycle}
use Rattle.loader.specs.declared.Stage.{Stage}
use Rattle.loader.specs.declared.Stage.TheVariants.{Clearing, Opening, Reading, EraseAsking, EraseConfirming, EraseWaiting, ProgramAsking}
use Rattle.loader.specs.declared.Stage.TheVariants.{ProgramSending, ProgramWaiting, Closing, Verifying, Ended}
use Rattle.loader.specs.declared.Loader.{Loader}
use Rattle.loader.specs.declared.Saying.{Saying}
use Rattle.loader.specs.declared.Saying.TheVariants.{Out, Over, Refused}
use Rattle.loader.specs.Stages.{is_ended, end_by}
use Rattle.loader_moves.specs.Inner.{past}
use Rattle.loader_steps.specs.Front.{bad_record, setup_rows, start_rows, record_at, end_address}
use Rattle.loader_held_lists.specs.Listings.{past_array, in_loaded, room_rows, held_rows}
use Rattle.loader_held.specs.declared.Step.{Step}
use Rattle.loader_held.specs.declared.Step.TheVariants.{Usual, Halting, Looking, Settling, ArrayAsking, Fetching, Resuming}
use Rattle.loader_held.specs.declared.Hold.{Hold}
use Rattle.loader_held.specs.declared.Pair.{Pair}
use Rattle.loader_held.specs.Holds.{usual, pair_of, held_next, held_scratch, held_room, held_cycle}
use Rattle.loader_held_steps.specs.declared.HeldResponse.{HeldResponse}

-- the cycle that is out belongs to an interruption
abbrev pub interrupting : Step → Bool
interrupting Usual = false
interrupting Halting = true
interrupting Looking = true
interrupting Settling = true
interrupting ArrayAsking = true
interrupting Fetching = true
interrupting Resuming = true

-- .. it reads an address of the list
abbrev pub fetching : Step → Bool
fetching Usual = false
fetching Halting = false
fetching Looking = false
fetching Settling = false
fetching ArrayAsking = false
fetching Fetching = true
fetching Resuming = false

-- the loader waits for its erase
abbrev pub waits_erase : Stage → Bool
waits_erase Clearing = false
waits_erase Opening = false
waits_erase Reading = false
waits_erase EraseAsking = false
waits_erase EraseConfirming = false
waits_erase EraseWaiting = true
waits_erase ProgramAsking = false
waits_erase ProgramSending = false
waits_erase ProgramWaiting = false
waits_erase Closing = false
waits_erase Verifying = false
waits_erase (Ended n) = false

-- refusal 3 of an interruption's record beside the loader's, with k addresses: an interruption though the loader waits for no erase, polls
-- over 65,534, or a read whose place is past the addresses (R-number-3)
unfoldable pub bad_hold : ℕ → Loader → Hold → Bool
bad_hold k l h =
    ((interrupting h.step && not (waits_erase l.stage)) || ltb 65534 h.waits) || (fetching h.step && leb k h.place)

-- .. of both records
unfoldable pub bad_pair : ℕ → Loader → Hold → Bool
bad_pair k l h = bad_record l || bad_hold k l h

-- the place of the address that the next cycle reads; k where it reads none
abbrev pub place_next : Step → ℕ → ℕ → ℕ
place_next Usual place k = k
place_next Halting place k = k
place_next Looking place k = k
place_next Settling place k = k
place_next ArrayAsking place k = 0
place_next Fetching place k = past place k
place_next Resuming place k = k

-- the tests of the lists in a step, in their order: of the addresses only the one at place i, where there is one
abbrev pub used_rows : Part → ℕ → ℕ → List ℕ → ℕ → List Row
used_rows part k i bs room =
    row 5 (ltb i (length bs) && past_array part (get_or bs i 0)) ∷ row 45 (ltb i (length bs) && in_loaded part k (get_or bs i 0))
    ∷ room_rows part.word (length bs) room

-- the first refusal of these, 0 where nothing refuses
unfoldable pub used_number : Part → ℕ → ℕ → List ℕ → ℕ → ℕ
used_number part k i bs room = given (used_rows part k i bs room)

-- the tests of a start, in their order: those of a load's start, then those of the whole lists (R-held-3)
abbrev pub start_held_rows : Part → Pins → ℕ → ℕ → ℕ → List ℕ → ℕ → List Row
start_held_rows part p k w sc bs room = start_rows part p k w sc ++ held_rows part k bs room

-- the first refusal of a start, 0 where nothing refuses
unfoldable pub start_held_number : Part → Pins → ℕ → ℕ → ℕ → List ℕ → ℕ → ℕ
start_held_number part p k w sc bs room = given (start_held_rows part p k w sc bs room)

-- the tests of a step, in their order
abbrev pub step_held_rows : Loader → Hold → ℕ → ℕ → List ℕ → ℕ → List Row
step_held_rows l h w sc bs room =
    row 1 (unknown_part l.part)
    ∷ row 3 (bad_pair (length bs) l h)
    ∷ (setup_rows l.part l.pins l.block w sc ++ used_rows l.part l.block (place_next h.step h.place (length bs)) bs room)

-- the first refusal of a step, 0 where nothing refuses
unfoldable pub step_held_number : Loader → Hold → ℕ → ℕ → List ℕ → ℕ → ℕ
step_held_number l h w sc bs room = given (step_held_rows l h w sc bs room)

-- what two records give: the cycle that is out, or their end again
abbrev pub held_saying_in : Loader → Hold → List ℕ → List ℕ → Saying
held_saying_in l h w bs = if is_ended l.stage then Over (end_by l.stage) (end_address l (end_by l.stage))
    else Out (held_cycle h.step l h w bs)

-- .. beside the two records
abbrev pub held_response : Pair → List ℕ → List ℕ → HeldResponse
held_response q w bs = record { saying = held_saying_in q.loader q.hold w bs; pair = q }

-- what they tell, by the cases of a saying: its number (0 for a cycle), the cycle given, and the address that an end gives
abbrev pub held_told : Pair → List ℕ → List ℕ → ℕ × List Cycle × List ℕ
held_told q w bs =
    if is_ended q.loader.stage then (end_by q.loader.stage, [], end_address q.loader (end_by q.loader.stage) ∷ [])
    else (0, held_cycle q.hold.step q.loader q.hold w bs ∷ [], [])

-- a refusal gives the records with it
abbrev pub held_refused : ℕ → Pair → HeldResponse
held_refused n q = record { saying = Refused n; pair = q }

-- the records at a load's beginning: no poll of the erase has been out
abbrev pub beginning : Part → Pins → ℕ → Stage → Bool → Pair
beginning part p k stage verify = pair_of (record_at part p k stage verify) (usual 0)

-- a start, of a load with the verify after it or of a load alone: a refused one gives a record that has ended with the number
unfoldable pub start_held_response : Bool → Part → Pins → ℕ → List ℕ → List ℕ → List ℕ → ℕ → HeldResponse
start_held_response verify part p k w sc bs room =
    if eqb (start_held_number part p k (length w) (length sc) bs room) 0 then held_response (beginning part p k Clearing verify) w bs
    else held_refused (start_held_number part p k (length w) (length sc) bs room)
    (beginning part p k (Ended (start_held_number part p k (length w) (length sc) bs room)) verify)

-- .. what it tells
unfoldable pub start_held_told : Bool → Part → Pins → ℕ → List ℕ → List ℕ → List ℕ → ℕ → ℕ × List Cycle × List ℕ
start_held_told verify part p k w sc bs room =
    if eqb (start_held_number part p k (length w) (length sc) bs room) 0 then held_told (beginning part p k Clearing verify) w bs
    else (start_held_number part p k (length w) (length sc) bs room, [], [])

-- the records after a step that is taken
abbrev pub held_move : Loader → Hold → ℕ → List ℕ → List ℕ → List ℕ → List ℕ → Pair
held_move l h v w sc ps bs = held_next h.step l h v (length bs) w sc ps

-- a step: what is given ..
unfoldable pub step_held_response : Loader → Hold → ℕ → List ℕ → List ℕ → List ℕ → List ℕ → ℕ → HeldResponse
step_held_response l h v w sc ps bs room =
    if eqb (step_held_number l h (length w) (length sc) bs room) 0 then held_response (held_move l h v w sc ps bs) w bs
    else held_refused (step_held_number l h (length w) (length sc) bs room) (pair_of l h)

-- .. what it tells ..
unfoldable pub step_held_told : Loader → Hold → ℕ → List ℕ → List ℕ → List ℕ → List ℕ → ℕ → ℕ × List Cycle × List ℕ
step_held_told l h v w sc ps bs room =
    if eqb (step_held_number l h (length w) (length sc) bs room) 0 then held_told (held_move l h v w sc ps bs) w bs
    else (step_held_number l h (length w) (length sc) bs room, [], [])

-- .. what is left in scratch, as lent bytes: the units as bytes again, or the bytes as they were where the step is refused ..
unfoldable pub held_scratch_left : Loader → Hold → ℕ → List ℕ → List ℕ → List ℕ → ℕ → List ℕ
held_scratch_left l h v wanted scratch bs room =
    if eqb (step_held_number l h (length (lent l.part.word wanted)) (length (lent l.part.word scratch)) bs room) 0
    then back l.part.word (held_scratch h.step l h v (length bs) (lent l.part.word wanted) (lent l.part.word scratch))
    else scratch

-- .. and in the room: the same, with the odd byte that is in no unit as it was
unfoldable pub held_room_left : Loader → Hold → ℕ → List ℕ → List ℕ → List ℕ → List ℕ → List ℕ
held_room_left l h v wanted scratch bs room =
    if eqb (step_held_number l h (length (lent l.part.word wanted)) (length (lent l.part.word scratch)) bs (length room)) 0
    then back l.part.word (held_room h.step l.part.word h v (units l.part.word room)) ++ spare l.part.word room
    else room
