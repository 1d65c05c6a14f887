-- `wear_answer::unread` meets its contract.
use mathlib.Core.Path.{refl}
use Rattle.wear_answer.specs.Answers.{unread}
use Rattle.wear_answer.proofs.unread.Goals as goal

pub returns : goal.returns
unfolding unread
returns c = refl
