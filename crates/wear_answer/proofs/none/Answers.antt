-- `wear_answer::none` meets its contract.
use mathlib.Core.Path.{ap}
use mathlib.Core.Bool.{true}
use Rattle.wear.specs.declared.Report.{Report}
use Rattle.wear_answer.proofs.none.Goals as goal

pub returns : goal.returns
returns c = ap (λ (z : Report). record { report = z; good = true }) c.none-report.ensures
