-- What is claimed of a load with interruptions a step at a time, in one place.
use mathlib.Core.Path.{◌≡◌}
use mathlib.Core.Bool.{Bool, false}
use mathlib.Core.List.{List, []}
use mathlib.Core.Logic.{◌↔◌}
use Prim.Native.Nat.{ℕ, ◌+◌}
use lib.ListN.{length}
use Rattle.common.specs.Lists.{Bytes}
use Rattle.common.specs.Numbers.{Foremost, NoRow}
use Rattle.device.specs.declared.Part.{Part}
use Rattle.units.specs.Units.{lent, carried}
use Rattle.model_types.specs.declared.Pins.{Pins}
use Rattle.loader.specs.declared.Stage.TheVariants.{Clearing, Ended}
use Rattle.loader.specs.declared.Loader.{Loader}
use Rattle.loader.specs.declared.Saying.TheVariants.{Over, Refused}
use Rattle.loader_moves.specs.Inner.{past}
use Rattle.loader_steps.specs.Front.{end_address, says_refused, start_response, step_response, scratch_after, scratch_left}
use Rattle.loader_held_lists.specs.Listings.{room_number, held_number}
use Rattle.loader_held.specs.declared.Step.TheVariants.{Fetching}
use Rattle.loader_held.specs.declared.Hold.{Hold}
use Rattle.loader_held.specs.Holds.{usual, pair_of, held_scratch, held_room}
use Rattle.loader_held_steps.specs.HeldFront.{start_held_rows, start_held_number, step_held_rows, step_held_number, beginning, start_held_response, held_move, step_held_response, held_scratch_left, held_room_left}
use Rattle.loader_held_steps.specs.ByHand.{AsOld, held_scratch_after, old_sayings, held_sayings}
use Rattle.loader.specs.declared.Work.TheVariants.{Load}
use Rattle.loader_held_steps.proofs.HeldAnswering as answering
use Rattle.loader_held_steps.proofs.HeldAgain as again
use Rattle.loader_held_steps.proofs.HeldEnd as ends
use Rattle.loader_held_steps.proofs.HeldBefore as before
use Rattle.loader_held_steps.proofs.HeldUnread as unread

-- The numbers: a start with the lists is refused by m exactly where m's own condition holds and that of no number before it does ..
pub held_start_refused_exactly : (verify : Bool) (part : Part) (p : Pins) (k : ℕ) (w sc bs : List ℕ) (room m : ℕ) → (m ≡ 0 → ⊥)
    → ((start_held_response verify part p k w sc bs room).saying ≡ Refused m) ↔ Foremost (start_held_rows part p k (length w) (length sc) bs room) m
held_start_refused_exactly = answering.start_numbers

pub held_start_accepted_exactly : (verify : Bool) (part : Part) (p : Pins) (k : ℕ) (w sc bs : List ℕ) (room : ℕ)
    → (says_refused (start_held_response verify part p k w sc bs room).saying ≡ false) ↔ NoRow (start_held_rows part p k (length w) (length sc) bs room)
held_start_accepted_exactly = answering.start_accepted

-- .. and so is a step.
pub held_step_refused_exactly : (l : Loader) (h : Hold) (v : ℕ) (w sc ps bs : List ℕ) (room m : ℕ) → (m ≡ 0 → ⊥)
    → ((step_held_response l h v w sc ps bs room).saying ≡ Refused m) ↔ Foremost (step_held_rows l h (length w) (length sc) bs room) m
held_step_refused_exactly = answering.step_numbers

pub held_step_accepted_exactly : (l : Loader) (h : Hold) (v : ℕ) (w sc ps bs : List ℕ) (room : ℕ)
    → (says_refused (step_held_response l h v w sc ps bs room).saying ≡ false) ↔ NoRow (step_held_rows l h (length w) (length sc) bs room)
held_step_accepted_exactly = answering.step_accepted

-- A refused step leaves both records, scratch and the room as they were, the lent bytes themselves; a refused start gives a record that
-- has ended with the number.
pub held_step_refused_leaves : (l : Loader) (h : Hold) (v : ℕ) (wanted scratch ps bs room : List ℕ) (m : ℕ)
    → (step_held_response l h v (lent l.part.word wanted) (lent l.part.word scratch) ps bs (length room)).saying ≡ Refused m
    → ((step_held_response l h v (lent l.part.word wanted) (lent l.part.word scratch) ps bs (length room)).pair ≡ pair_of l h)
    × (held_scratch_left l h v wanted scratch bs (length room) ≡ scratch)
    × (held_room_left l h v wanted scratch bs room ≡ room)
held_step_refused_leaves = answering.step_refused

pub held_start_refused_gives : (verify : Bool) (part : Part) (p : Pins) (k : ℕ) (w sc bs : List ℕ) (room m : ℕ) → (start_held_response verify part p k w sc bs room).saying ≡ Refused m
    → (start_held_response verify part p k w sc bs room).pair ≡ beginning part p k (Ended m) verify
held_start_refused_gives = answering.start_refused

-- What a start has let pass no later step refuses, with the same lists and the scratch that is left: a step tests the one address that it
-- uses, and a start has tested them all.
pub held_start_taken_again : (verify : Bool) (part : Part) (p : Pins) (k w sc : ℕ) (bs : List ℕ) (room : ℕ) → start_held_number part p k w sc bs room ≡ 0
    → (step_held_number (beginning part p k Clearing verify).loader (beginning part p k Clearing verify).hold w sc bs room ≡ 0) × (held_number part k bs room ≡ 0)
held_start_taken_again = again.start_again

pub held_step_taken_again : (l : Loader) (h : Hold) (v : ℕ) (w sc ps bs : List ℕ) (room : ℕ) → step_held_number l h (length w) (length sc) bs room ≡ 0
    → held_number l.part l.block bs room ≡ 0
    → (step_held_number (held_move l h v w sc ps bs).loader (held_move l h v w sc ps bs).hold (length w) (length (held_scratch h.step l h v (length bs) w sc)) bs room ≡ 0)
    × (held_number (held_move l h v w sc ps bs).loader.part (held_move l h v w sc ps bs).loader.block bs room ≡ 0)
held_step_taken_again = again.step_again

-- After its end such a load repeats that end.
pub held_end_repeats : (l : Loader) (h : Hold) (v n : ℕ) (w sc ps bs : List ℕ) (room : ℕ) → step_held_number l h (length w) (length sc) bs room ≡ 0 → l.stage ≡ Ended n
    → (step_held_response l h v w sc ps bs room ≡ record { saying = Over n (end_address l n); pair = pair_of l (usual h.number) })
    × (held_scratch h.step l h v (length bs) w sc ≡ sc)
    × ((us : List ℕ) → held_room h.step l.part.word h v us ≡ us)
held_end_repeats = ends.end_again

-- With no polls to interrupt it is the loader's own start and its own steps, one by one, whatever data a host hands in: the same sayings,
-- the same records, the same scratch, refusals too, and the room as it was. The lists have passed their tests; of a step that is those of
-- their lengths.
pub no_polls_start : (verify : Bool) (part : Part) (p : Pins) (k : ℕ) (w sc bs : List ℕ) (room : ℕ) → held_number part k bs room ≡ 0
    → ((start_held_response verify part p k w sc bs room).saying ≡ (start_response (Load verify) part p k w sc).saying)
    × ((start_held_response verify part p k w sc bs room).pair ≡ pair_of (start_response (Load verify) part p k w sc).loader (usual 0))
no_polls_start = before.start_same

pub no_polls_step : (l : Loader) (n : ℕ) (bs : List ℕ) (room : ℕ) → room_number l.part.word (length bs) room ≡ 0 → (v : ℕ) (w sc : List ℕ)
    → (AsOld (step_held_response l (usual n) v w sc [] bs room) (step_response l v w sc)) × (held_scratch_after l (usual n) v w sc bs room ≡ scratch_after l v w sc)
no_polls_step l n bs room e v w sc = ((before.step_same l n bs room e v w sc).0, before.scratch_same l n bs room e v w sc)

pub no_polls_sayings : (vs : List ℕ) (l : Loader) (n : ℕ) (w sc bs : List ℕ) (room : ℕ) → room_number l.part.word (length bs) room ≡ 0
    → held_sayings vs l (usual n) w sc [] bs room ≡ old_sayings vs l w sc
no_polls_sayings = before.sayings_same

pub no_polls_bytes : (l : Loader) (n v : ℕ) (wanted scratch bs room : List ℕ) → room_number l.part.word (length bs) (length room) ≡ 0 → Bytes room
    → (held_scratch_left l (usual n) v wanted scratch bs (length room) ≡ scratch_left l v wanted scratch) × (held_room_left l (usual n) v wanted scratch bs room ≡ room)
no_polls_bytes = before.bytes_same

-- In byte mode the high byte of what was read changes nothing: neither what is given nor what is left.
pub held_step_unread : (l : Loader) (h : Hold) (v : ℕ) (w sc ps bs : List ℕ) (room : ℕ) → step_held_response l h (carried l.part.word v) w sc ps bs room ≡ step_held_response l h v w sc ps bs room
held_step_unread = unread.step_unread

pub held_bytes_unread : (l : Loader) (h : Hold) (v : ℕ) (wanted scratch bs room : List ℕ)
    → (held_scratch_left l h (carried l.part.word v) wanted scratch bs (length room) ≡ held_scratch_left l h v wanted scratch bs (length room))
    × (held_room_left l h (carried l.part.word v) wanted scratch bs room ≡ held_room_left l h v wanted scratch bs room)
held_bytes_unread = unread.bytes_unread

-- A record that a step takes meets none of the code's own limits: the place after a read is one more.
pub next_read_is : (l : Loader) (h : Hold) (w sc : ℕ) (bs : List ℕ) (room : ℕ) → step_held_number l h w sc bs room ≡ 0 → h.step ≡ Fetching → past h.place (length bs) ≡ h.place + 1
next_read_is = again.next_read
