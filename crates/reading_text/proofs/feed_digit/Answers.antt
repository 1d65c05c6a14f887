-- `reading_text::feed_digit` meets its contract.
use Rattle.std.proofs.Common.{arith}
use Rattle.std.proofs.lemmas.Bool.Decides.{nat_tests}
use Rattle.reading_text.specs.Numbers.{fed_digit}
use Rattle.reading_text.proofs.feed_digit.Goals as goal

pub returns-then-n-ge100000000 : goal.returns-then-n-ge100000000
unfolding fed_digit
returns-then-n-ge100000000 c = grind (arith, nat_tests)

pub returns : goal.returns
unfolding fed_digit
returns c = grind (arith, nat_tests)
