-- `text::is_hex` meets its contract.
use Rattle.std.proofs.Common.{arith}
use Rattle.std.proofs.lemmas.Bool.Decides.{nat_tests}
use Rattle.text.specs.Digits.{is_hex}
use Rattle.text.proofs.is_hex.Goals as goal

pub returns-then-is_digit : goal.returns-then-is_digit
unfolding is_hex
returns-then-is_digit c = grind (arith, nat_tests)

pub returns-else-is_digit : goal.returns-else-is_digit
unfolding is_hex
returns-else-is_digit c = grind (arith, nat_tests)
