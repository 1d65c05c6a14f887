-- `reading_text::gap` meets its contract.
use Rattle.std.proofs.Common.{arith}
use Rattle.std.proofs.lemmas.Bool.Decides.{nat_tests}
use Rattle.reading_text.specs.Tables.{at_gap}
use Rattle.reading_text.proofs.gap.Goals as goal

pub returns-then-gap_wrong : goal.returns-then-gap_wrong
unfolding at_gap
returns-then-gap_wrong c = grind (arith, nat_tests)

pub returns : goal.returns
unfolding at_gap
returns c = grind (arith, nat_tests)
