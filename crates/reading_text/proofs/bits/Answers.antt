-- `reading_text::bits` meets its contract.
use Rattle.std.proofs.Common.{arith}
use Rattle.std.proofs.lemmas.Bool.Decides.{nat_tests}
use Rattle.reading_text.specs.Tables.{bits_of}
use Rattle.reading_text.proofs.bits.Goals as goal

pub returns-then-n : goal.returns-then-n
unfolding bits_of
returns-then-n c = grind (arith, nat_tests)

pub returns-else-n : goal.returns-else-n
unfolding bits_of
returns-else-n c = grind (arith, nat_tests)
