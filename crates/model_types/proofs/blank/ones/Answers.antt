use Rattle.model_types.specs.Cells.{ones}
use Rattle.model_types.proofs.blank.ones.Goals as goal

pub returns-then-word : goal.returns-then-word
unfolding ones
returns-then-word c = simp c.if-word.true

pub returns : goal.returns
unfolding ones
returns c = simp c.if-word.false
