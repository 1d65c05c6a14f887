-- `wear::pass` meets its contract.
use Rattle.std.proofs.Common.{arith}
use Rattle.std.proofs.lemmas.Bool.Decides.{nat_tests}
use Rattle.wear.specs.Reports.{passing}
use Rattle.wear.proofs.pass.Goals as goal

pub returns-then-n-gt-SHEET : goal.returns-then-n-gt-SHEET
unfolding passing
returns-then-n-gt-SHEET c = grind (arith, nat_tests)

pub returns : goal.returns
unfolding passing
returns c = grind (arith, nat_tests)
