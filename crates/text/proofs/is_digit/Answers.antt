-- `text::is_digit` meets its contract.
use Rattle.std.proofs.Common.{arith}
use Rattle.std.proofs.lemmas.Bool.Decides.{nat_tests}
use Rattle.text.specs.Digits.{is_digit}
use Rattle.text.proofs.is_digit.Goals as goal

pub returns : goal.returns
unfolding is_digit
returns c = grind (arith, nat_tests)
