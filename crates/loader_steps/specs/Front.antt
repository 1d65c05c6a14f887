-- The loader's tests, its start and its step. Lengths are counted in units, and what is wanted and scratch are lists of units: those of
-- the lent bytes, of which an odd number makes none in word mode.
use Rattle.std.specs.Prelude.{Bool, true, false, not, ◌&&◌, ◌||◌, List, [], ◌∷◌, ℕ, length, eqb, ltb, leb, if◌then◌else◌}
use Rattle.common.specs.Numbers.{Row, row, given}
use Rattle.device.specs.declared.Part.{Part}
use Rattle.device.specs.Parts.{unknown_part, length_of}
use Rattle.model_types.specs.declared.Pins.{Pins}
use Rattle.model_types.specs.declared.Cycle.{Cycle}
use Rattle.model_levels.specs.Levels.{rp_low, bad_pins}
use Rattle.loader.specs.declared.Stage.{Stage}
use Rattle.loader.specs.declared.Stage.TheVariants.{Ended}
use Rattle.loader.specs.declared.Work.{Work}
use Rattle.loader.specs.declared.Loader.{Loader}
use Rattle.loader.specs.declared.Saying.{Saying}
use Rattle.loader.specs.declared.Saying.TheVariants.{Out, Over, Refused}
use Rattle.loader.specs.declared.Response.{Response}
use Rattle.loader.specs.Stages.{is_ended, end_by, first_stage, verifies}
use Rattle.loader_moves.specs.Moves.{next_of}
use Rattle.units.specs.Units.{lent, back}
use Rattle.loader_steps.specs.Outs.{byte_here, cycle_of}
use Rattle.loader_stores.specs.Stores.{store_of}

-- refusal 4 of a loader: a level outside what is allowed, or RP# low (R-number-4)
unfoldable pub barred_pins : Part → Pins → Bool
barred_pins part p = bad_pins part p || rp_low p

-- refusal 10: there is no such block (R-number-10)
unfoldable pub no_block : Part → ℕ → Bool
no_block part k = eqb (length_of part k) 0

-- refusal 11: wanted or scratch is not as long as the block (R-number-11)
unfoldable pub wrong_lengths : Part → ℕ → ℕ → ℕ → Bool
wrong_lengths part k w sc = not (eqb w (length_of part k)) || not (eqb sc (length_of part k))

-- refusal 3 of a loader: polls over 65,534, or a place past the block where there is one (R-number-3)
unfoldable pub bad_record : Loader → Bool
bad_record l = ltb 65534 l.polls || (not (no_block l.part l.block) && leb (length_of l.part l.block) l.place)

-- levels, block and lengths: what a start, a step and a run test alike, in their order
abbrev pub setup_rows : Part → Pins → ℕ → ℕ → ℕ → List Row
setup_rows part p k w sc = row 4 (barred_pins part p) ∷ row 10 (no_block part k) ∷ row 11 (wrong_lengths part k w sc) ∷ []

-- the first refusal of these, 0 where nothing refuses
unfoldable pub setup_number : Part → Pins → ℕ → ℕ → ℕ → ℕ
setup_number part p k w sc = given (setup_rows part p k w sc)

-- the tests of a start, in their order (R-order-4)
abbrev pub start_rows : Part → Pins → ℕ → ℕ → ℕ → List Row
start_rows part p k w sc = row 1 (unknown_part part) ∷ setup_rows part p k w sc

-- the first refusal of a start, 0 where nothing refuses
unfoldable pub start_number : Part → Pins → ℕ → ℕ → ℕ → ℕ
start_number part p k w sc = given (start_rows part p k w sc)

-- the tests of a step, in their order (R-order-4)
abbrev pub step_rows : Loader → ℕ → ℕ → List Row
step_rows l w sc = row 1 (unknown_part l.part) ∷ row 3 (bad_record l) ∷ setup_rows l.part l.pins l.block w sc

-- the first refusal of a step, 0 where nothing refuses
unfoldable pub step_number : Loader → ℕ → ℕ → ℕ
step_number l w sc = given (step_rows l w sc)

-- a record at its beginning, with its first stage and whether the verify follows the load
abbrev pub record_at : Part → Pins → ℕ → Stage → Bool → Loader
record_at part p k stage verify =
    record { part = part; pins = p; block = k; stage = stage; place = 0; polls = 0; verify = verify; high = false }

-- the address that an end gives: for 25 the byte address of the byte that differs, else 0 (R-number-25)
unfoldable pub end_address : Loader → ℕ → ℕ
end_address l n = if eqb n 25 then byte_here l else 0

-- what a record gives: the cycle that is out, or its end again (R-load-7)
abbrev pub saying_in : Stage → Loader → List ℕ → Saying
saying_in stage l w = if is_ended stage then Over (end_by stage) (end_address l (end_by stage)) else Out (cycle_of l w)

-- .. beside the record
abbrev pub response_at : Loader → List ℕ → Response
response_at l w = record { saying = saying_in l.stage l w; loader = l }

-- a saying by its cases: its number (0 for a cycle, the end's, or the refusal's), the cycle given, and the address that an end gives
-- (R-promise-2)
abbrev pub saying_told : Saying → ℕ × List Cycle × List ℕ
saying_told (Out c) = (0, c ∷ [], [])
saying_told (Over n a) = (n, [], a ∷ [])
saying_told (Refused n) = (n, [], [])

-- what a record tells: the cycle that is out, or its end again
abbrev pub record_told : Loader → List ℕ → ℕ × List Cycle × List ℕ
record_told l w = if is_ended l.stage then (end_by l.stage, [], end_address l (end_by l.stage) ∷ []) else (0, cycle_of l w ∷ [], [])

-- a refusal gives the record with it
abbrev pub refused_by : ℕ → Loader → Response
refused_by n l = record { saying = Refused n; loader = l }

-- what is given is a refusal
abbrev pub says_refused : Saying → Bool
says_refused (Out c) = false
says_refused (Over n a) = false
says_refused (Refused m) = true

-- the record that a start begins with: that of a load, with or without the verify after it, or of a verify alone
abbrev pub record_of : Work → Part → Pins → ℕ → Loader
record_of work part p k = record_at part p k (first_stage work) (verifies work)

-- a start: a refused one gives a record that has ended with the number
unfoldable pub start_response : Work → Part → Pins → ℕ → List ℕ → List ℕ → Response
start_response work part p k w sc =
    if eqb (start_number part p k (length w) (length sc)) 0 then response_at (record_of work part p k) w
    else refused_by (start_number part p k (length w) (length sc))
    (record_at part p k (Ended (start_number part p k (length w) (length sc))) (verifies work))

-- what a start tells: its refusal, or what the record at its beginning tells
unfoldable pub start_told : Work → Part → Pins → ℕ → List ℕ → List ℕ → ℕ × List Cycle × List ℕ
start_told work part p k w sc =
    if eqb (start_number part p k (length w) (length sc)) 0 then record_told (record_of work part p k) w
    else (start_number part p k (length w) (length sc), [], [])

-- a step: what is given .. (R-load-7)
unfoldable pub step_response : Loader → ℕ → List ℕ → List ℕ → Response
step_response l v w sc =
    if eqb (step_number l (length w) (length sc)) 0 then response_at (next_of l v w (store_of l v w sc)) w
    else refused_by (step_number l (length w) (length sc)) l

-- .. what it tells: its refusal, or what the next record tells ..
unfoldable pub step_told : Loader → ℕ → List ℕ → List ℕ → ℕ × List Cycle × List ℕ
step_told l v w sc =
    if eqb (step_number l (length w) (length sc)) 0 then record_told (next_of l v w (store_of l v w sc)) w
    else (step_number l (length w) (length sc), [], [])

-- .. and what is left in scratch
unfoldable pub scratch_after : Loader → ℕ → List ℕ → List ℕ → List ℕ
scratch_after l v w sc = if eqb (step_number l (length w) (length sc)) 0 then store_of l v w sc else sc

-- .. as lent bytes: the units as bytes again, or the bytes as they were where the step is refused
unfoldable pub scratch_left : Loader → ℕ → List ℕ → List ℕ → List ℕ
scratch_left l v wanted scratch =
    if eqb (step_number l (length (lent l.part.word wanted)) (length (lent l.part.word scratch))) 0
    then back l.part.word (scratch_after l v (lent l.part.word wanted) (lent l.part.word scratch))
    else scratch
