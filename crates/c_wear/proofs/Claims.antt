-- What is claimed of reports as numbers: nothing is lost either way.
use mathlib.Core.Path.{◌≡◌, refl}
use Rattle.wear.specs.declared.Tally.{Tally}
use Rattle.wear.specs.declared.Report.{Report}
use Rattle.wear.specs.declared.Reported.{Reported}
use Rattle.c_wear.specs.declared.TallyNumbers.{TallyNumbers}
use Rattle.c_wear.specs.declared.ReportNumbers.{ReportNumbers}
use Rattle.c_wear.specs.declared.ReportedNumbers.{ReportedNumbers}
use Rattle.c_wear.specs.Reports.{tally_in, tally_out, report_in, report_out, reported_in, reported_out}

-- There and back: each report has numbers, and these numbers stand for it.
pub tally_back : (t : Tally) → tally_in (tally_out t) ≡ t
tally_back t = refl

pub report_back : (r : Report) → report_in (report_out r) ≡ r
report_back r = refl

pub reported_back : (r : Reported) → reported_in (reported_out r) ≡ r
reported_back r = refl

-- Back and there: all numbers stand for a report, and are the only numbers of it.
pub tally_numbers : (n : TallyNumbers) → tally_out (tally_in n) ≡ n
tally_numbers n = refl

pub report_numbers : (n : ReportNumbers) → report_out (report_in n) ≡ n
report_numbers n = refl

pub reported_numbers : (n : ReportedNumbers) → reported_out (reported_in n) ≡ n
reported_numbers n = refl
