use Rattle.store_told.specs.Sayings.{call_wrong}
use Rattle.store_told.proofs.call_wrong.Goals as goal

pub returns : goal.returns
unfolding call_wrong
returns c = simp (c.is_word.ensures, c.nth.ensures)
