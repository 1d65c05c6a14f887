-- `wear::uneven_counts` meets its contract.
use Rattle.std.proofs.Common.{arith}
use Rattle.std.proofs.lemmas.Bool.Decides.{nat_tests}
use Rattle.wear.specs.Refusals.{uneven_counts}
use Rattle.wear.proofs.uneven_counts.Goals as goal

pub returns-then-counts-traces : goal.returns-then-counts-traces
unfolding uneven_counts
returns-then-counts-traces c = grind (arith, nat_tests)

pub returns-else-counts-traces : goal.returns-else-counts-traces
unfolding uneven_counts
returns-else-counts-traces c = grind (arith, nat_tests)
