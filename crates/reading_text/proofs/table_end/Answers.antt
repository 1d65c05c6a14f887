-- `reading_text::table_end` meets its contract.
use Rattle.std.proofs.Common.{arith}
use Rattle.std.proofs.lemmas.Bool.Decides.{nat_tests}
use Rattle.reading_text.specs.Tables.{table_read}
use Rattle.reading_text.proofs.table_end.Goals as goal

pub returns-then-s : goal.returns-then-s
unfolding table_read
returns-then-s c = grind (arith, nat_tests)

pub returns : goal.returns
unfolding table_read
returns c = grind (arith, nat_tests)
