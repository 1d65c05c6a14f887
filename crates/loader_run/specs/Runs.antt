-- A run: its tests, its beginning and what it returns, told of lists of units; and then of lent bytes.
use Rattle.std.specs.Prelude.{Bool, not, List, [], ◌∷◌, ◌++◌, ℕ, length, eqb, if◌then◌else◌}
use Rattle.common.specs.Numbers.{Row, row, given}
use Rattle.units.specs.Units.{back, lent, lent_in}
use Rattle.device.specs.declared.Device.{Device}
use Rattle.device.specs.Parts.{unknown_device, size_of}
use Rattle.model_types.specs.declared.Pins.{Pins}
use Rattle.model_types.specs.declared.State.{State}
use Rattle.model_types.specs.Phases.{under_way}
use Rattle.model_states.specs.States.{improper}
use Rattle.loader.specs.declared.Loader.{Loader}
use Rattle.loader.specs.Stages.{end_by}
use Rattle.loader_steps.specs.Front.{setup_rows, end_address, record_of}
use Rattle.loader_run.specs.declared.Ran.{Ran}
use Rattle.loader_run.specs.Turns.{Config, after}
use Rattle.loader_run.specs.Inner.{bound}
use Rattle.loader.specs.declared.Work.{Work}
use Rattle.loader_run.specs.declared.Job.{Job}

-- a job by its parts
abbrev pub job_of : Work → Device → State → Pins → ℕ → Job
job_of work d s p k = record { device = d; state = s; pins = p; block = k; work = work }

-- the same job with another work
abbrev pub doing : Work → Job → Job
doing work j = job_of work j.device j.state j.pins j.block

-- the tests of a run, in their order, the lengths in units; 12 is something awaited, running or suspended (R-order-2, R-number-12)
abbrev pub run_rows : Job → ℕ → ℕ → ℕ → List Row
run_rows j array w sc =
    row 1 (unknown_device j.device)
    ∷ row 2 (not (eqb array (size_of j.device.part)))
    ∷ row 3 (improper j.device j.state)
    ∷ (setup_rows j.device.part j.pins j.block w sc ++ (row 12 (under_way j.state.phase) ∷ []))

-- the number of the first of such rows that holds, 0 where none does
unfoldable pub run_first : List Row → ℕ
run_first rows = given rows

-- the first refusal of a run, 0 where nothing refuses
abbrev pub run_number : Job → ℕ → ℕ → ℕ → ℕ
run_number j array w sc = run_first (run_rows j array w sc)

-- the beginning of a load
abbrev pub begin : Device → State → Loader → List ℕ → List ℕ → Config
begin d s l xs sc = record { loader = l; state = s; bytes = xs; scratch = sc; count = 0 }

-- .. of a job: with 50H for a load, with FFH for a verify alone (R-load-1, R-load-5)
abbrev pub beginning : Job → List ℕ → List ℕ → Config
beginning j xs sc = begin j.device j.state (record_of j.work j.device.part j.pins j.block) xs sc

-- what is returned of a load under way
abbrev pub ran_by : Config → Ran
ran_by c =
    record {
      count = c.count;
      end = end_by c.loader.stage;
      address = end_address c.loader (end_by c.loader.stage);
      state = c.state;
    }

-- the load made to its end
unfoldable pub driven : Device → List ℕ → Config → Config
driven d w c = after (bound (length w)) d w c

-- a job made to its end, as it is left
unfoldable pub run_end : Job → List ℕ → List ℕ → List ℕ → Config
run_end j xs w sc = driven j.device w (beginning j xs sc)

-- what a run returns and leaves: its result, the array and scratch
pub record RunLeft : Type 0 where
  pub ran : Ran
  pub bytes : List ℕ
  pub scratch : List ℕ

-- .. of a load that was made
abbrev pub run_made : Config → RunLeft
run_made c = record { ran = ran_by c; bytes = c.bytes; scratch = c.scratch }

-- .. of a run that is refused: no cycle is counted and nothing is touched (R-order-2)
abbrev pub run_refused : ℕ → State → List ℕ → List ℕ → RunLeft
run_refused n s xs sc = record { ran = record { count = 0; end = n; address = 0; state = s }; bytes = xs; scratch = sc }

-- a run: of load and verify, of a load alone, or of a verify alone, as the job asks; refused by its number, or made to the end (R-load-5)
unfoldable pub run_left : Job → List ℕ → List ℕ → List ℕ → RunLeft
run_left j xs w sc =
    if eqb (run_number j (length xs) (length w) (length sc)) 0 then run_made (run_end j xs w sc)
    else run_refused (run_number j (length xs) (length w) (length sc)) j.state xs sc

-- the same of so many lent bytes: the lengths are those of their units, and an odd number of bytes makes none in word mode
abbrev pub lent_rows : Job → ℕ → ℕ → ℕ → List Row
lent_rows j array wanted scratch =
    run_rows j (lent_in j.device.part.word array) (lent_in j.device.part.word wanted) (lent_in j.device.part.word scratch)

-- the first refusal of a run on so many lent bytes, 0 where nothing refuses
abbrev pub lent_number : Job → ℕ → ℕ → ℕ → ℕ
lent_number j array wanted scratch =
    run_number j (lent_in j.device.part.word array) (lent_in j.device.part.word wanted) (lent_in j.device.part.word scratch)

-- what is left in units, as bytes again
abbrev pub as_bytes : Bool → RunLeft → RunLeft
as_bytes word r = record { ran = r.ran; bytes = back word r.bytes; scratch = back word r.scratch }

-- a run on lent bytes: what it returns and leaves by their units, or the refusal with the bytes as they were
unfoldable pub lent_run : Job → List ℕ → List ℕ → List ℕ → RunLeft
lent_run j array wanted scratch =
    if eqb (lent_number j (length array) (length wanted) (length scratch)) 0
    then as_bytes j.device.part.word
    (run_left j (lent j.device.part.word array) (lent j.device.part.word wanted) (lent j.device.part.word scratch))
    else run_refused (lent_number j (length array) (length wanted) (length scratch)) j.state array scratch
