-- A load that may be interrupted, as plain numbers: its records, and what its start, its step and its run give.
use Rattle.std.specs.Prelude.{Bool, not, ◌||◌, List, ℕ, length, eqb, ltb, if◌then◌else◌}
use Rattle.units.specs.Units.{lent}
use Rattle.loader_held.specs.declared.Step.{Step}
use Rattle.loader_held.specs.declared.Step.TheVariants.{Usual, Halting, Looking, Settling, ArrayAsking, Fetching, Resuming}
use Rattle.loader_held.specs.declared.Hold.{Hold}
use Rattle.loader_held.specs.declared.Pair.{Pair}
use Rattle.loader_held_steps.specs.declared.HeldResponse.{HeldResponse}
use Rattle.loader_held_steps.specs.HeldFront.{start_held_response, step_held_response, held_scratch_left, held_room_left}
use Rattle.loader_held_run.specs.HeldRuns.{HeldLeft, lent_held}
use Rattle.loader_held_file.specs.HeldLoads.{HeldLoadLeft, held_file_left}
use Rattle.c_cycle.specs.declared.DeviceNumbers.{DeviceNumbers}
use Rattle.c_cycle.specs.declared.StateNumbers.{StateNumbers}
use Rattle.c_cycle.specs.Values.{flag_out, part_in, pins_in}
use Rattle.c_records.specs.declared.RanNumbers.{RanNumbers}
use Rattle.c_records.specs.Records.{loader_in, loader_out, loader_back, saying_out, ran_out, job_in}
use Rattle.c_held.specs.declared.HoldNumbers.{HoldNumbers}
use Rattle.c_held.specs.declared.HeldNumbers.{HeldNumbers}
use Rattle.c_held.specs.declared.HeldResponseNumbers.{HeldResponseNumbers}
use Rattle.loader.specs.declared.Work.TheVariants.{Load}

-- steps of an interruption: 0 none, 1 to 6 by the cycle that is out
unfoldable pub step_in : ℕ → Step
step_in n =
    if eqb n 0 then Usual
    else if eqb n 1 then Halting
    else if eqb n 2 then Looking
    else if eqb n 3 then Settling
    else if eqb n 4 then ArrayAsking
    else if eqb n 5 then Fetching
    else Resuming

-- .. and a step as its number
abbrev pub step_out : Step → ℕ
step_out Usual = 0
step_out Halting = 1
step_out Looking = 2
step_out Settling = 3
step_out ArrayAsking = 4
step_out Fetching = 5
step_out Resuming = 6

-- the numbers stand for no record of an interruption: no such step, or SR.6 neither set nor clear
unfoldable pub no_hold : HoldNumbers → Bool
no_hold n = ltb 6 n.step || ltb 1 n.suspended

-- polls of the suspend's own wait; where the numbers stand for no record, a count that every step refuses
unfoldable pub waits_in : HoldNumbers → ℕ
waits_in n = if no_hold n then 65535 else n.waits

-- numbers as an interruption's record, and back
abbrev pub hold_in : HoldNumbers → Hold
hold_in n = record { step = step_in n.step; number = n.number; place = n.place; waits = waits_in n; suspended = eqb n.suspended 1 }

-- .. an interruption's record as numbers
abbrev pub hold_out : Hold → HoldNumbers
hold_out h = record { step = step_out h.step; suspended = flag_out h.suspended; number = h.number; waits = h.waits; place = h.place }

-- the record that goes back for one that came in; numbers that stand for none go back as they came
unfoldable pub hold_back : HoldNumbers → Hold → HoldNumbers
hold_back n h = if no_hold n then n else hold_out h

-- both records
abbrev pub held_in : HeldNumbers → Pair
held_in n = record { loader = loader_in n.loader; hold = hold_in n.hold }

-- .. as numbers
abbrev pub held_out : Pair → HeldNumbers
held_out q = record { loader = loader_out q.loader; hold = hold_out q.hold }

-- .. the records that go back for those that came in; numbers that stand for none go back as they came
abbrev pub held_back : HeldNumbers → Pair → HeldNumbers
held_back n q = record { loader = loader_back n.loader q.loader; hold = hold_back n.hold q.hold }

-- what a start says, beside the records; and a step, for the records that came in
abbrev pub held_response_out : HeldResponse → HeldResponseNumbers
held_response_out g = record { turn = saying_out g.saying; held = held_out g.pair }

-- .. what a step says, for the records that came in
abbrev pub held_response_back : HeldNumbers → HeldResponse → HeldResponseNumbers
held_response_back n g = record { turn = saying_out g.saying; held = held_back n g.pair }

-- a number that stands for yes or no: 0 is no
abbrev pub yes : ℕ → Bool
yes n = not (eqb n 0)

-- a start
unfoldable pub started_held : ℕ → ℕ → ℕ → ℕ → ℕ → ℕ → ℕ → List ℕ → List ℕ → List ℕ → List ℕ → HeldResponseNumbers
started_held part word rp wp vpp k verify w sc bs room =
    held_response_out
    (start_held_response (yes verify) (part_in part word) (pins_in rp wp vpp) k (lent (part_in part word).word w)
    (lent (part_in part word).word sc) bs (length room))

-- whether the part that a record's numbers name is in word mode
abbrev pub word_in : HeldNumbers → Bool
word_in n = (held_in n).loader.part.word

-- a step: what it says and the records, scratch, and the room
unfoldable pub stepped_held : HeldNumbers → ℕ → List ℕ → List ℕ → List ℕ → List ℕ → List ℕ → HeldResponseNumbers
stepped_held n v w sc ps bs room =
    held_response_back n (step_held_response (held_in n).loader (held_in n).hold v (lent (word_in n) w) (lent (word_in n) sc) ps bs
    (length room))

-- .. what it leaves in scratch
unfoldable pub scratch_stepped_held : HeldNumbers → ℕ → List ℕ → List ℕ → List ℕ → List ℕ → List ℕ
scratch_stepped_held n v w sc bs room = held_scratch_left (held_in n).loader (held_in n).hold v w sc bs (length room)

-- .. what it leaves in the room
unfoldable pub room_stepped_held : HeldNumbers → ℕ → List ℕ → List ℕ → List ℕ → List ℕ → List ℕ
room_stepped_held n v w sc bs room = held_room_left (held_in n).loader (held_in n).hold v w sc bs room

-- a run: what it returns and leaves
unfoldable pub held_run_left : DeviceNumbers → StateNumbers → ℕ → ℕ → ℕ → ℕ → ℕ → List ℕ → List ℕ → List ℕ → List ℕ → List ℕ → List ℕ
    → HeldLeft
held_run_left d s rp wp vpp k verify xs w sc ps bs room = lent_held (job_in (Load (yes verify)) d s rp wp vpp k) xs w sc ps bs room

-- .. the result as numbers
unfoldable pub held_run_of : DeviceNumbers → StateNumbers → ℕ → ℕ → ℕ → ℕ → ℕ → List ℕ → List ℕ → List ℕ → List ℕ → List ℕ → List ℕ
    → RanNumbers
held_run_of d s rp wp vpp k verify xs w sc ps bs room = ran_out s (held_run_left d s rp wp vpp k verify xs w sc ps bs room).ran

-- a load from a file: what it returns and leaves
unfoldable pub held_load_left : DeviceNumbers → StateNumbers → ℕ → ℕ → ℕ → ℕ → ℕ → ℕ → List ℕ → List ℕ → List ℕ → List ℕ → List ℕ → List ℕ
    → List ℕ → HeldLoadLeft
held_load_left d s rp wp vpp k verify asked f xs w sc ps bs room =
    held_file_left (job_in (Load (yes verify)) d s rp wp vpp k) xs w sc f asked ps bs room

-- .. the result as numbers
unfoldable pub held_load_of : DeviceNumbers → StateNumbers → ℕ → ℕ → ℕ → ℕ → ℕ → ℕ → List ℕ → List ℕ → List ℕ → List ℕ → List ℕ → List ℕ
    → List ℕ → RanNumbers
held_load_of d s rp wp vpp k verify asked f xs w sc ps bs room =
    ran_out s (held_load_left d s rp wp vpp k verify asked f xs w sc ps bs room).ran
