use Rattle.wear.specs.Refusals.{unknown_number}
use Rattle.wear.proofs.unknown.Goals as goal

pub returns : goal.returns
unfolding unknown_number
returns c = simp c.unknown_part.ensures
