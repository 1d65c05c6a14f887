use Rattle.loader_held.proofs.holds.numbering.Reads as reads
use Rattle.loader_held.proofs.holds.numbering.Lts as lts
use Rattle.loader_held.proofs.holds.after_poll.Reads as after-poll-reads
use Rattle.loader_held.proofs.holds.usually.Reads as usually-reads
use Rattle.loader_held.proofs.holds.numbering.Goals as goal

-- src/holds.rt:76:1
pub returns-in-Clearing : goal.returns-in-Clearing
returns-in-Clearing c = simp (c.usually.ensures, c.in-Clearing.is)

-- src/holds.rt:76:1
pub returns-in-Opening : goal.returns-in-Opening
returns-in-Opening c = simp (c.usually-in-Opening.ensures, c.in-Opening.is)

-- src/holds.rt:76:1
pub returns-in-Reading : goal.returns-in-Reading
returns-in-Reading c = simp (c.usually-in-Reading.ensures, c.in-Reading.is)

-- src/holds.rt:76:1
pub returns-in-EraseAsking : goal.returns-in-EraseAsking
returns-in-EraseAsking c = simp (c.usually-in-EraseAsking.ensures, c.in-EraseAsking.is)

-- src/holds.rt:76:1
pub returns-in-EraseConfirming : goal.returns-in-EraseConfirming
returns-in-EraseConfirming c = simp (c.usually-in-EraseConfirming.ensures, c.in-EraseConfirming.is)

-- src/holds.rt:76:1
pub returns-in-EraseWaiting : goal.returns-in-EraseWaiting
returns-in-EraseWaiting c = simp (c.after_poll.ensures, c.in-EraseWaiting.is)

-- src/holds.rt:76:1
pub returns-in-ProgramAsking : goal.returns-in-ProgramAsking
returns-in-ProgramAsking c = simp (c.usually-in-ProgramAsking.ensures, c.in-ProgramAsking.is)

-- src/holds.rt:76:1
pub returns-in-ProgramSending : goal.returns-in-ProgramSending
returns-in-ProgramSending c = simp (c.usually-in-ProgramSending.ensures, c.in-ProgramSending.is)

-- src/holds.rt:76:1
pub returns-in-ProgramWaiting : goal.returns-in-ProgramWaiting
returns-in-ProgramWaiting c = simp (c.usually-in-ProgramWaiting.ensures, c.in-ProgramWaiting.is)

-- src/holds.rt:76:1
pub returns-in-Closing : goal.returns-in-Closing
returns-in-Closing c = simp (c.usually-in-Closing.ensures, c.in-Closing.is)

-- src/holds.rt:76:1
pub returns-in-Verifying : goal.returns-in-Verifying
returns-in-Verifying c = simp (c.usually-in-Verifying.ensures, c.in-Verifying.is)

-- src/holds.rt:76:1
pub returns-in-Ended : goal.returns-in-Ended
returns-in-Ended c = simp (c.usually-in-Ended.ensures, c.in-Ended.is)
