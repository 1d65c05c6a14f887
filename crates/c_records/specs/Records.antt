-- The loader's record, and what start, step, run, load, writer and reader say, as plain numbers.
use Rattle.std.specs.Prelude.{Bool, not, ◌&&◌, ◌||◌, ℕ, eqb, ltb, if◌then◌else◌, length, Result, Ok, Err}
use Rattle.c_cycle.specs.declared.DeviceNumbers.{DeviceNumbers}
use Rattle.c_cycle.specs.declared.StateNumbers.{StateNumbers}
use Rattle.c_cycle.specs.declared.BusNumbers.{BusNumbers}
use Rattle.loader.specs.declared.Stage.{Stage}
use Rattle.loader.specs.declared.Stage.TheVariants.{Clearing, Opening, Reading, EraseAsking, EraseConfirming, EraseWaiting, ProgramAsking}
use Rattle.loader.specs.declared.Stage.TheVariants.{ProgramSending, ProgramWaiting, Closing, Verifying, Ended}
use Rattle.loader.specs.declared.Loader.{Loader}
use Rattle.loader.specs.Stages.{is_ended, end_by}
use Rattle.c_records.specs.declared.LoaderNumbers.{LoaderNumbers}
use Rattle.loader.specs.declared.Saying.{Saying}
use Rattle.loader.specs.declared.Saying.TheVariants.{Out, Over, Refused as SayRefused}
use Rattle.loader_run.specs.declared.Ran.{Ran}
use Rattle.loader_run.specs.declared.Job.{Job}
use Rattle.loader_run.specs.Runs.{job_of}
use Rattle.loader.specs.declared.Work.{Work}
use Rattle.file_check.specs.Refusal.{number_of}
use Rattle.file_check.specs.declared.refusal.FileRefusal.{FileRefusal}
use Rattle.file_codec.specs.File.{Outcome, refused, made}
use Rattle.c_cycle.specs.Values.{cycle_out, device_in, state_in, part_in, pins_in, flag_out}
use Rattle.c_records.specs.declared.SayingNumbers.{SayingNumbers}
use Rattle.c_records.specs.declared.RanNumbers.{RanNumbers}
use Rattle.c_records.specs.declared.SizedNumbers.{SizedNumbers}
use Rattle.c_cycle.specs.Answers.{state_back}

-- stages of a load: 0 to 10 by the cycle that is out, 11 ended with a number
unfoldable pub stage_in : ℕ → ℕ → Stage
stage_in n end =
    if eqb n 0 then Clearing
    else if eqb n 1 then Opening
    else if eqb n 2 then Reading
    else if eqb n 3 then EraseAsking
    else if eqb n 4 then EraseConfirming
    else if eqb n 5 then EraseWaiting
    else if eqb n 6 then ProgramAsking
    else if eqb n 7 then ProgramSending
    else if eqb n 8 then ProgramWaiting
    else if eqb n 9 then Closing
    else if eqb n 10 then Verifying
    else Ended end

-- .. and a stage as its number; the number that a load ended with stands apart
abbrev pub stage_out : Stage → ℕ
stage_out Clearing = 0
stage_out Opening = 1
stage_out Reading = 2
stage_out EraseAsking = 3
stage_out EraseConfirming = 4
stage_out EraseWaiting = 5
stage_out ProgramAsking = 6
stage_out ProgramSending = 7
stage_out ProgramWaiting = 8
stage_out Closing = 9
stage_out Verifying = 10
stage_out (Ended end) = 11

-- the number of the end, 0 while the load goes on
abbrev pub end_out : Stage → ℕ
end_out stage = if is_ended stage then end_by stage else 0

-- the numbers stand for no record: no such stage, an end's number in a load that goes on, or a verify, a mode or a high byte that is
-- neither 0 nor 1
unfoldable pub no_record : LoaderNumbers → Bool
no_record n =
    (((ltb 11 n.stage || (not (eqb n.end 0) && not (eqb n.stage 11))) || ltb 1 n.verify) || ltb 1 n.word) || ltb 1 n.high

-- polls of a record; where the numbers stand for none, a count that every step refuses
unfoldable pub polls_in : LoaderNumbers → ℕ
polls_in n = if no_record n then 65535 else n.polls

-- numbers as a loader's record
abbrev pub loader_in : LoaderNumbers → Loader
loader_in n =
    record {
      part = part_in n.part n.word;
      pins = pins_in n.rp n.wp n.vpp;
      block = n.block;
      stage = stage_in n.stage n.end;
      place = n.place;
      polls = polls_in n;
      verify = eqb n.verify 1;
      high = eqb n.high 1;
    }

-- .. and a loader's record as numbers
abbrev pub loader_out : Loader → LoaderNumbers
loader_out l =
    record {
      part = l.part.number;
      word = flag_out l.part.word;
      rp = l.pins.rp;
      wp = l.pins.wp;
      block = l.block;
      stage = stage_out l.stage;
      end = end_out l.stage;
      verify = flag_out l.verify;
      high = flag_out l.high;
      vpp = l.pins.vpp;
      polls = l.polls;
      place = l.place;
    }

-- the record that goes back for a record that came in; numbers that stand for none go back as they came
unfoldable pub loader_back : LoaderNumbers → Loader → LoaderNumbers
loader_back n l = if no_record n then n else loader_out l

-- no cycle: all numbers zero
abbrev pub no_cycle : BusNumbers
no_cycle = record { kind = 0; rp = 0; oe = 0; wp = 0; «data» = 0; vpp = 0; address = 0 }

-- a saying by its four numbers
abbrev pub saying_at : ℕ → ℕ → ℕ → BusNumbers → SayingNumbers
saying_at turn number address cycle = record { turn = turn; number = number; address = address; cycle = cycle }

-- what a step says: 0 a cycle is out, 1 over with a number and an address, 2 refused by a number
abbrev pub saying_out : Saying → SayingNumbers
saying_out (Out c) = saying_at 0 0 0 (cycle_out c)
saying_out (Over n a) = saying_at 1 n a no_cycle
saying_out (SayRefused n) = saying_at 2 n 0 no_cycle

-- bytes made and their number, or a refusal and 0
abbrev pub sized_as : ℕ → ℕ → SizedNumbers
sized_as number size = record { number = number; length = size }

-- what writer or reader answered, as numbers
abbrev pub sized_out : Result ℕ FileRefusal → SizedNumbers
sized_out (Ok size) = sized_as 0 size
sized_out (Err refusal) = sized_as (number_of refusal) 0

-- the outcome of writer or reader, as numbers
abbrev pub sized_by : Outcome → SizedNumbers
sized_by (made bytes) = sized_as 0 (length bytes)
sized_by (refused n) = sized_as n 0

-- what is run, by the numbers of the device, its state and the levels on it
abbrev pub job_in : Work → DeviceNumbers → StateNumbers → ℕ → ℕ → ℕ → ℕ → Job
job_in work d s rp wp vpp k = job_of work (device_in d) (state_in s) (pins_in rp wp vpp) k

-- what a run returns, as numbers, for the state's numbers that came in
abbrev pub ran_out : StateNumbers → Ran → RanNumbers
ran_out n r = record { count = r.count; end = r.end; address = r.address; state = state_back n r.state }
