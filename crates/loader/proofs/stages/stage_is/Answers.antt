use Rattle.loader.proofs.stages.stage_is.Goals as goal

pub returns-in-Clearing : goal.returns-in-Clearing
returns-in-Clearing c = simp (c.gives_cycle.ensures, c.in-Clearing.is)

pub returns-in-Opening : goal.returns-in-Opening
returns-in-Opening c = simp (c.gives_cycle-in-Opening.ensures, c.in-Opening.is)

pub returns-in-Reading : goal.returns-in-Reading
returns-in-Reading c = simp (c.gives_cycle-in-Reading.ensures, c.in-Reading.is)

pub returns-in-EraseAsking : goal.returns-in-EraseAsking
returns-in-EraseAsking c = simp (c.gives_cycle-in-EraseAsking.ensures, c.in-EraseAsking.is)

pub returns-in-EraseConfirming : goal.returns-in-EraseConfirming
returns-in-EraseConfirming c = simp (c.gives_cycle-in-EraseConfirming.ensures, c.in-EraseConfirming.is)

pub returns-in-EraseWaiting : goal.returns-in-EraseWaiting
returns-in-EraseWaiting c = simp (c.gives_cycle-in-EraseWaiting.ensures, c.in-EraseWaiting.is)

pub returns-in-ProgramAsking : goal.returns-in-ProgramAsking
returns-in-ProgramAsking c = simp (c.gives_cycle-in-ProgramAsking.ensures, c.in-ProgramAsking.is)

pub returns-in-ProgramSending : goal.returns-in-ProgramSending
returns-in-ProgramSending c = simp (c.gives_cycle-in-ProgramSending.ensures, c.in-ProgramSending.is)

pub returns-in-ProgramWaiting : goal.returns-in-ProgramWaiting
returns-in-ProgramWaiting c = simp (c.gives_cycle-in-ProgramWaiting.ensures, c.in-ProgramWaiting.is)

pub returns-in-Closing : goal.returns-in-Closing
returns-in-Closing c = simp (c.gives_cycle-in-Closing.ensures, c.in-Closing.is)

pub returns-in-Verifying : goal.returns-in-Verifying
returns-in-Verifying c = simp (c.gives_cycle-in-Verifying.ensures, c.in-Verifying.is)

pub returns-in-Ended : goal.returns-in-Ended
returns-in-Ended c = simp c.in-Ended.is
