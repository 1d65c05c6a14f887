-- `text::letter` meets its contract.
use Rattle.std.proofs.Common.{arith}
use Rattle.std.proofs.lemmas.Bool.Decides.{nat_tests}
use Rattle.text.specs.Digits.{digit_letter}
use Rattle.text.proofs.letter.Goals as goal

pub returns-then-n-lt10 : goal.returns-then-n-lt10
unfolding digit_letter
returns-then-n-lt10 c = grind (arith, nat_tests)

pub returns : goal.returns
unfolding digit_letter
returns c = grind (arith, nat_tests)
