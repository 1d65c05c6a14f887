-- `verify_answer::is_numeral` meets its contract.
use Rattle.verify_answer.specs.Answers.{is_numeral}
use Rattle.verify_answer.proofs.is_numeral.Goals as goal

pub returns : goal.returns
unfolding is_numeral
returns c = simp (c.is_digit.ensures, c.nth.ensures)
