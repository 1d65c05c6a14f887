-- `reading_text::gap_wrong` meets its contract.
use Rattle.std.proofs.Common.{arith}
use Rattle.std.proofs.lemmas.Bool.Decides.{nat_tests}
use Rattle.reading_text.specs.Tables.{gap_wrong}
use Rattle.reading_text.proofs.gap_wrong.Goals as goal

pub returns-then-s : goal.returns-then-s
unfolding gap_wrong
returns-then-s c = grind (arith, nat_tests)

pub returns-else-s : goal.returns-else-s
unfolding gap_wrong
returns-else-s c = grind (arith, nat_tests)
