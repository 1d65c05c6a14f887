-- What a stage is: the end of a load, or a cycle that is out.
use Rattle.std.specs.Prelude.{Bool, true, false, ℕ}
use Rattle.model_types.specs.declared.Kind.{Kind}
use Rattle.model_types.specs.declared.Kind.TheVariants.{Read, Write, Idle}
use Rattle.loader.specs.declared.Stage.{Stage}
use Rattle.loader.specs.declared.Stage.TheVariants.{Clearing, Opening, Reading, EraseAsking, EraseConfirming, EraseWaiting}
use Rattle.loader.specs.declared.Stage.TheVariants.{ProgramAsking, ProgramSending, ProgramWaiting, Closing, Verifying, Ended}
use Rattle.loader.specs.declared.StageIs.{StageIs}
use Rattle.loader.specs.declared.Work.{Work}
use Rattle.loader.specs.declared.Work.TheVariants.{Load, Verify}
use Rattle.loader.specs.Inner.{no_end}

-- before the end: a cycle of a kind is out, and the load has no number yet
abbrev pub gives_cycle : Kind → Bool → Bool → ℕ → StageIs
gives_cycle kind here wanted command = record { ended = false; end = no_end; kind = kind; here = here; wanted = wanted; command = command }

-- a command to the block's first address
abbrev pub commands : ℕ → StageIs
commands command = gives_cycle Write false false command

-- 40H, and then the wanted unit, to the unit at the record's place
abbrev pub programs : StageIs
programs = gives_cycle Write true false 0x40

-- the wanted unit, written to the unit at the record's place
abbrev pub sends : StageIs
sends = gives_cycle Write true true 0

-- a read of the unit at the record's place, or of the block's first address
abbrev pub reads_here : StageIs
reads_here = gives_cycle Read true false 0

-- a read of the block's first address
abbrev pub reads_first : StageIs
reads_first = gives_cycle Read false false 0

-- the end by a number: nothing is out, and idle stands for that
abbrev pub ends_by : ℕ → StageIs
ends_by n = record { ended = true; end = n; kind = Idle; here = false; wanted = false; command = 0 }

-- the one place that says what each stage is: commands and an erase's polls go to the block's first address, all about one unit to that
-- unit (R-load-6)
abbrev pub stage_is : Stage → StageIs
stage_is Clearing = commands 0x50
stage_is Opening = commands 0xFF
stage_is Reading = reads_here
stage_is EraseAsking = commands 0x20
stage_is EraseConfirming = commands 0xD0
stage_is EraseWaiting = reads_first
stage_is ProgramAsking = programs
stage_is ProgramSending = sends
stage_is ProgramWaiting = reads_here
stage_is Closing = commands 0xFF
stage_is Verifying = reads_here
stage_is (Ended n) = ends_by n

-- the load has ended
abbrev pub is_ended : Stage → Bool
is_ended stage = (stage_is stage).ended

-- the number of its end
abbrev pub end_by : Stage → ℕ
end_by stage = (stage_is stage).end

-- the stage that a work begins at: a load with 50H, a verify alone with FFH (R-load-1, R-load-5)
abbrev pub first_stage : Work → Stage
first_stage (Load v) = Clearing
first_stage Verify = Closing

-- a verify is part of it: after the load where that is asked for, or alone (R-load-5)
abbrev pub verifies : Work → Bool
verifies (Load v) = v
verifies Verify = true
