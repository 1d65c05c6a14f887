-- `reading_text::value` meets its contract.
use Rattle.std.proofs.Common.{arith}
use Rattle.std.proofs.lemmas.Bool.Decides.{nat_tests}
use Rattle.std.proofs.lemmas.Int.{ints}
use Rattle.reading_text.specs.Numbers.{value_of}
use Rattle.reading_text.proofs.value.Goals as goal

pub returns-then-n : goal.returns-then-n
unfolding value_of
returns-then-n c = grind (arith, nat_tests, ints)

pub returns-else-n : goal.returns-else-n
unfolding value_of
returns-else-n c = grind (arith, nat_tests, ints)
