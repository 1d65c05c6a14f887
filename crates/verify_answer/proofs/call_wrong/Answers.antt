-- `verify_answer::call_wrong` meets its contract.
use mathlib.Core.Path.{refl}
use Rattle.verify_answer.specs.Answers.{call_wrong}
use Rattle.verify_answer.proofs.call_wrong.Goals as goal

pub returns : goal.returns
unfolding call_wrong
returns c = refl
