use Rattle.loader_held.proofs.holds.held_out.Reads as reads
use Rattle.loader_held.proofs.holds.held_out.Lts as lts
use Rattle.loader_held.proofs.holds.address_at.Reads as address-at-reads
use Rattle.loader_held.proofs.holds.cycle_by.Reads as cycle-by-reads
use Rattle.loader_steps.proofs.outs.first.Reads as first_reads
use Rattle.loader_steps.proofs.outs.out.Reads as out_reads
use Rattle.loader_held.proofs.holds.held_out.Goals as goal

-- src/holds.rt:242:1
pub returns-in-Usual : goal.returns-in-Usual
returns-in-Usual c = simp (c.out.ensures, c.in-Usual.is)

-- src/holds.rt:242:1
pub returns-in-Halting : goal.returns-in-Halting
returns-in-Halting c = simp (c.cycle_by.ensures, c.first.ensures, c.in-Halting.is)

-- src/holds.rt:242:1
pub returns-in-Looking : goal.returns-in-Looking
returns-in-Looking c = simp (c.cycle_by-in-Looking.ensures, c.first-in-Looking.ensures, c.in-Looking.is)

-- src/holds.rt:242:1
pub returns-in-Settling : goal.returns-in-Settling
returns-in-Settling c = simp (c.cycle_by-in-Settling.ensures, c.first-in-Settling.ensures, c.in-Settling.is)

-- src/holds.rt:242:1
pub returns-in-ArrayAsking : goal.returns-in-ArrayAsking
returns-in-ArrayAsking c = simp (c.cycle_by-in-ArrayAsking.ensures, c.first-in-ArrayAsking.ensures, c.in-ArrayAsking.is)

-- src/holds.rt:242:1
pub returns-in-Fetching : goal.returns-in-Fetching
returns-in-Fetching c = simp (c.cycle_by-in-Fetching.ensures, c.address_at.ensures, c.in-Fetching.is)

-- src/holds.rt:242:1
pub returns-in-Resuming : goal.returns-in-Resuming
returns-in-Resuming c = simp (c.cycle_by-in-Resuming.ensures, c.first-in-Resuming.ensures, c.in-Resuming.is)
