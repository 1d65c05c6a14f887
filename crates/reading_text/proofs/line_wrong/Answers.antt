-- `reading_text::line_wrong` meets its contract.
use Rattle.std.proofs.Common.{arith}
use Rattle.std.proofs.lemmas.Bool.Decides.{nat_tests}
use Rattle.reading_text.specs.Tables.{line_wrong}
use Rattle.reading_text.proofs.line_wrong.Goals as goal

pub returns-then-not-fits_tenths : goal.returns-then-not-fits_tenths
unfolding line_wrong
returns-then-not-fits_tenths c = grind (arith, nat_tests)

pub returns-else-not-fits_tenths : goal.returns-else-not-fits_tenths
unfolding line_wrong
returns-else-not-fits_tenths c = grind (arith, nat_tests)
