-- `wear::tally_up` meets its contract.
use Rattle.std.proofs.Common.{arith}
use Rattle.std.proofs.lemmas.Bool.Decides.{nat_tests}
use Rattle.wear.specs.Reports.{added_up, larger}
use Rattle.wear.proofs.tally_up.Goals as goal

pub returns : goal.returns
unfolding added_up larger
returns c = grind (arith, nat_tests)
