-- `verify_answer::numeral` meets its contract.
use mathlib.Core.Path.{sym, ◌∙◌}
use Rattle.verify_answer.specs.Answers.{numeral_of}
use Rattle.verify_answer.proofs.numeral.Goals as goal

pub returns-then-is_numeral : goal.returns-then-is_numeral
unfolding numeral_of
returns-then-is_numeral c = simp (c.digit.ensures, c.nth.ensures, sym c.is_numeral.ensures ∙ c.if-is_numeral.true)

pub returns : goal.returns
unfolding numeral_of
returns c = simp (sym c.is_numeral.ensures ∙ c.if-is_numeral.false)
