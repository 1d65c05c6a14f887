use Rattle.store_told.specs.Sayings.{is_word}
use Rattle.store_told.proofs.is_word.Reads as reads
use Rattle.store_told.proofs.is_word.Lts as lts
use Rattle.store_told.proofs.is_change.Reads as is-change-reads
use Rattle.store_told.proofs.is_word.Goals as goal

-- src/lib.rt:42:1
pub returns : goal.returns
unfolding is_word
returns c = simp c.is_change.ensures
