use Rattle.c_functions.specs.Calls.{wear_reported}
use Rattle.c_functions.proofs.tb_wear_report.Goals as goal

pub returns : goal.returns
unfolding wear_reported
returns c = simp (c.reported_out.ensures, c.report_on-reported.ensures)
