-- Two results that a promise of this crate allows are equal.
use mathlib.Core.Path.{◌≡◌}
use Rattle.common.specs.Choice.{Unique}
use Rattle.common.proofs.Choice.{only}
use Rattle.wear.specs.declared.Report.{Report}
use Rattle.wear.specs.declared.Reported.{Reported}
use Rattle.c_wear.specs.declared.ReportNumbers.{ReportNumbers}
use Rattle.c_wear.specs.declared.ReportedNumbers.{ReportedNumbers}
use Rattle.c_wear.specs.Reports.{report_in, report_out, reported_out}

pub report_in_unique : (n : ReportNumbers) → Unique (λ (r : Report). r ≡ report_in n)
report_in_unique n = only (report_in n)

pub report_out_unique : (r : Report) → Unique (λ (q : ReportNumbers). q ≡ report_out r)
report_out_unique r = only (report_out r)

pub reported_out_unique : (r : Reported) → Unique (λ (q : ReportedNumbers). q ≡ reported_out r)
reported_out_unique r = only (reported_out r)
