use mathlib.Core.Path.{refl}
use Rattle.loader_held.proofs.holds.usual_next.Reads as reads
use Rattle.loader_held.proofs.holds.usual_next.Lts as lts
use Rattle.loader_held.proofs.holds.moved_on.Reads as moved-on-reads
use Rattle.loader_stores.proofs.advance.Reads as advance-reads
use Rattle.loader_held.proofs.holds.usual_next.Goals as goal

-- src/holds.rt:174:1
pub returns : goal.returns
returns c = simp (c.moved_on.ensures, c.advance-next.ensures.result, c.advance-next.ensures.scratch_left, c.advance-next.ensures.scratch_spare) (record { result = refl; scratch_left = refl; scratch_spare = refl })
