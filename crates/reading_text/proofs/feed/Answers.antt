-- `reading_text::feed` meets its contract.
use Rattle.std.proofs.Common.{arith}
use Rattle.std.proofs.lemmas.Bool.Decides.{nat_tests}
use Rattle.reading_text.specs.Numbers.{fed}
use Rattle.reading_text.proofs.feed.Goals as goal

pub returns-then-is_digit : goal.returns-then-is_digit
unfolding fed
returns-then-is_digit c = grind (arith, nat_tests)

pub returns-then-b-eq45 : goal.returns-then-b-eq45
unfolding fed
returns-then-b-eq45 c = grind (arith, nat_tests)

pub returns : goal.returns
unfolding fed
returns c = grind (arith, nat_tests)
