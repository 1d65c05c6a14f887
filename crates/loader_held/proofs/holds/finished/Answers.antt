use mathlib.Core.Path.{refl}
use Rattle.loader_held.proofs.holds.finished.Reads as reads
use Rattle.loader_held.proofs.holds.finished.Lts as lts
use Rattle.loader_held.proofs.holds.pair_of.Reads as pair-of-reads
use Rattle.loader_held.proofs.holds.usually.Reads as usually-reads
use Rattle.loader_stores.proofs.advance.Reads as advance-reads
use Rattle.loader_held.proofs.holds.finished.Goals as goal

-- src/holds.rt:132:1
pub returns : goal.returns
returns c = simp (c.pair_of.ensures, c.usually.ensures, c.advance-next.ensures.result, c.advance-next.ensures.scratch_left, c.advance-next.ensures.scratch_spare) (record { result = refl; scratch_left = refl; scratch_spare = refl })
