-- `wear_answer::traced` meets its contract.
use Rattle.wear_answer.specs.Answers.{worn_traced}
use Rattle.wear_answer.proofs.traced.Goals as goal

pub returns : goal.returns
unfolding worn_traced
returns c = c.count.ensures.result
