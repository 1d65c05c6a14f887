-- The ends of a load and of a verify, the stages of each alone, and how a run goes from one to the other.
use Rattle.std.specs.Prelude.{Bool, true, false, ◌&&◌, ◌||◌, ℕ, eqb, leb, if◌then◌else◌}
use Rattle.loader.specs.declared.Stage.{Stage}
use Rattle.loader.specs.declared.Stage.TheVariants.{Clearing, Opening, Reading, EraseAsking, EraseConfirming, EraseWaiting, ProgramAsking}
use Rattle.loader.specs.declared.Stage.TheVariants.{ProgramSending, ProgramWaiting, Closing, Verifying, Ended}
use Rattle.loader.specs.declared.Loader.{Loader}
use Rattle.loader.specs.Stages.{is_ended, end_by}
use Rattle.loader_steps.specs.Front.{record_at}

-- a load ends well or by 20 to 24 (R-load-8)
abbrev pub ends_load : ℕ → Bool
ends_load n = eqb n 0 || (leb 20 n && leb n 24)

-- a verify ends well or by 25 (R-load-8)
abbrev pub ends_verify : ℕ → Bool
ends_verify n = eqb n 0 || eqb n 25

-- the stages of a load alone
abbrev pub of_load : Stage → Bool
of_load Clearing = true
of_load Opening = true
of_load Reading = true
of_load EraseAsking = true
of_load EraseConfirming = true
of_load EraseWaiting = true
of_load ProgramAsking = true
of_load ProgramSending = true
of_load ProgramWaiting = true
of_load Closing = false
of_load Verifying = false
of_load (Ended n) = ends_load n

-- the stages of a verify alone
abbrev pub of_verify : Stage → Bool
of_verify Clearing = false
of_verify Opening = false
of_verify Reading = false
of_verify EraseAsking = false
of_verify EraseConfirming = false
of_verify EraseWaiting = false
of_verify ProgramAsking = false
of_verify ProgramSending = false
of_verify ProgramWaiting = false
of_verify Closing = true
of_verify Verifying = true
of_verify (Ended n) = ends_verify n

-- a record with or without the verify after the load
abbrev pub with_verify : Bool → Loader → Loader
with_verify verify l =
    record {
      part = l.part;
      pins = l.pins;
      block = l.block;
      stage = l.stage;
      place = l.place;
      polls = l.polls;
      verify = verify;
      high = l.high;
    }

-- a load's good end
abbrev pub ended_well : Stage → Bool
ended_well stage = is_ended stage && eqb (end_by stage) 0

-- what a run makes of its load's record: the verify's start after a good end, else the same record
abbrev pub carried_on : Loader → Loader
carried_on l = if ended_well l.stage then record_at l.part l.pins l.block Closing true else with_verify true l
