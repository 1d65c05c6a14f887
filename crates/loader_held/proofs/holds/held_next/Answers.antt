use mathlib.Core.Path.{refl}
use Rattle.loader_held.proofs.holds.held_next.Reads as reads
use Rattle.loader_held.proofs.holds.held_next.Lts as lts
use Rattle.loader_held.proofs.holds.fetch_on.Reads as fetch-on-reads
use Rattle.loader_held.proofs.holds.held_to.Reads as held-to-reads
use Rattle.loader_held.proofs.holds.next_place.Reads as next-place-reads
use Rattle.loader_held.proofs.holds.pair_of.Reads as pair-of-reads
use Rattle.loader_held.proofs.holds.resume.Reads as resume-reads
use Rattle.loader_held.proofs.holds.settled_by.Reads as settled-by-reads
use Rattle.loader_held.proofs.holds.usual_next.Reads as usual-next-reads
use Rattle.units.proofs.low.Reads as low_reads
use Rattle.loader_held.proofs.holds.held_next.Goals as goal

-- src/holds.rt:198:1
pub returns-in-Usual : goal.returns-in-Usual
returns-in-Usual c = simp (c.usual_next.ensures.result, c.usual_next.ensures.scratch_left, c.usual_next.ensures.scratch_spare, c.in-Usual.is) (record { result = refl; scratch_left = refl; scratch_spare = refl })

-- src/holds.rt:198:1
pub returns-in-Halting : goal.returns-in-Halting
returns-in-Halting c = simp (c.pair_of.ensures, c.held_to.ensures, c.in-Halting.is) (record { result = refl; scratch_left = refl; scratch_spare = refl })

-- src/holds.rt:198:1
pub returns-in-Looking : goal.returns-in-Looking
returns-in-Looking c = simp (c.pair_of-in-Looking.ensures, c.held_to-in-Looking.ensures, c.in-Looking.is) (record { result = refl; scratch_left = refl; scratch_spare = refl })

-- src/holds.rt:198:1
pub returns-in-Settling : goal.returns-in-Settling
returns-in-Settling c = simp (c.settled_by.ensures, c.low.ensures, c.in-Settling.is) (record { result = refl; scratch_left = refl; scratch_spare = refl })

-- src/holds.rt:198:1
pub returns-in-ArrayAsking : goal.returns-in-ArrayAsking
returns-in-ArrayAsking c = simp (c.fetch_on.ensures.result, c.fetch_on.ensures.scratch_left, c.fetch_on.ensures.scratch_spare, c.in-ArrayAsking.is) (record { result = refl; scratch_left = refl; scratch_spare = refl })

-- src/holds.rt:198:1
pub returns-in-Fetching : goal.returns-in-Fetching
returns-in-Fetching c = simp (c.fetch_on-in-Fetching.ensures.result, c.fetch_on-in-Fetching.ensures.scratch_left, c.fetch_on-in-Fetching.ensures.scratch_spare, c.next_place.ensures, c.in-Fetching.is) (record { result = refl; scratch_left = refl; scratch_spare = refl })

-- src/holds.rt:198:1
pub returns-in-Resuming : goal.returns-in-Resuming
returns-in-Resuming c = simp (c.resume.ensures, c.in-Resuming.is) (record { result = refl; scratch_left = refl; scratch_spare = refl })
