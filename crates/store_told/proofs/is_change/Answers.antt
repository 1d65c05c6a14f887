use mathlib.Core.Path.{refl}
use Rattle.store_told.specs.Sayings.{is_change}
use Rattle.store_told.proofs.is_change.Reads as reads
use Rattle.store_told.proofs.is_change.Lts as lts
use Rattle.store_told.proofs.is_change.Goals as goal

-- src/lib.rt:35:1
pub returns : goal.returns
unfolding is_change
returns c = refl
