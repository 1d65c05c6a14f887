-- `reading_answer::call_wrong` meets its contract.
use mathlib.Core.Path.{refl}
use Rattle.reading_answer.specs.Lines.{call_wrong}
use Rattle.reading_answer.proofs.call_wrong.Goals as goal

pub returns : goal.returns
unfolding call_wrong
returns c = refl
