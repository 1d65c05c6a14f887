-- `wear::lowest` meets its contract.
use Rattle.std.proofs.Common.{arith}
use Rattle.std.proofs.lemmas.Bool.Decides.{nat_tests}
use Rattle.wear.specs.Reports.{lowest}
use Rattle.wear.proofs.lowest.Goals as goal

pub returns-then-first : goal.returns-then-first
unfolding lowest
returns-then-first c = grind (arith, nat_tests)

pub returns-else-first : goal.returns-else-first
unfolding lowest
returns-else-first c = grind (arith, nat_tests)
