-- `reading_text::within_line` meets its contract.
use Rattle.std.proofs.Common.{arith}
use Rattle.std.proofs.lemmas.Bool.Decides.{nat_tests}
use Rattle.reading_text.specs.Tables.{within_line}
use Rattle.reading_text.proofs.within_line.Goals as goal

pub returns-then-b-eq32 : goal.returns-then-b-eq32
unfolding within_line
returns-then-b-eq32 c = grind (arith, nat_tests)

pub returns : goal.returns
unfolding within_line
returns c = grind (arith, nat_tests)
