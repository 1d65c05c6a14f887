-- `wear::tally_in` meets its contract.
use Rattle.std.proofs.Common.{arith}
use Rattle.std.proofs.lemmas.Bool.Decides.{nat_tests}
use Rattle.wear.specs.Reports.{added_up, larger}
use Rattle.wear.proofs.tally_in.Goals as goal

pub returns : goal.returns
unfolding added_up larger
returns c = grind (arith, nat_tests)
