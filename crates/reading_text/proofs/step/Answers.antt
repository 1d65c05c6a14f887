-- `reading_text::step` meets its contract.
use Rattle.std.proofs.Common.{arith}
use Rattle.std.proofs.lemmas.Bool.Decides.{nat_tests}
use Rattle.reading_text.specs.Tables.{scan_more}
use Rattle.reading_text.proofs.step.Goals as goal

pub returns-then-s : goal.returns-then-s
unfolding scan_more
returns-then-s c = grind (arith, nat_tests)

pub returns-then-b-eq10 : goal.returns-then-b-eq10
unfolding scan_more
returns-then-b-eq10 c = grind (arith, nat_tests)

pub returns : goal.returns
unfolding scan_more
returns c = grind (arith, nat_tests)
