-- `reading_text::is_begun` meets its contract.
use Rattle.std.proofs.Common.{arith}
use Rattle.std.proofs.lemmas.Bool.Decides.{nat_tests}
use Rattle.reading_text.specs.Tables.{is_begun}
use Rattle.reading_text.proofs.is_begun.Goals as goal

pub returns-then-n-2 : goal.returns-then-n-2
unfolding is_begun
returns-then-n-2 c = grind (arith, nat_tests)

pub returns-else-n-2 : goal.returns-else-n-2
unfolding is_begun
returns-else-n-2 c = grind (arith, nat_tests)
