use mathlib.Core.Path.{refl}
use Rattle.c_held.specs.Helds.{no_hold}
use Rattle.c_held.proofs.holds.no_hold.Reads as reads
use Rattle.c_held.proofs.holds.no_hold.Lts as lts
use Rattle.c_held.proofs.holds.no_hold.Goals as goal

-- src/holds.rt:42:1
pub returns : goal.returns
unfolding no_hold
returns c = refl
