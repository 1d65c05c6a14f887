-- `verify_answer::tell` meets its contract.
use Rattle.verify_answer.specs.Answers.{told}
use Rattle.verify_answer.proofs.tell.Goals as goal

pub returns : goal.returns
unfolding told
returns c = let e = c.answer.ensures in record { result = e.result; out_left = e.out_left; image_left = e.image_left; out_used = e.out_used }
