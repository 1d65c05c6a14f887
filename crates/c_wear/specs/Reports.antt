-- The report on wear as plain numbers, each way: each number as it is.
use Rattle.wear.specs.declared.Tally.{Tally}
use Rattle.wear.specs.declared.Report.{Report}
use Rattle.wear.specs.declared.Reported.{Reported}
use Rattle.c_wear.specs.declared.TallyNumbers.{TallyNumbers}
use Rattle.c_wear.specs.declared.ReportNumbers.{ReportNumbers}
use Rattle.c_wear.specs.declared.ReportedNumbers.{ReportedNumbers}

-- one block's numbers
abbrev pub tally_in : TallyNumbers → Tally
tally_in n = record { total = n.total; largest = n.largest; smallest = n.smallest; passed = n.passed }

-- .. as numbers
abbrev pub tally_out : Tally → TallyNumbers
tally_out t = record { total = t.total; largest = t.largest; smallest = t.smallest; passed = t.passed }

-- a report's numbers: the traces, and block by block
abbrev pub report_in : ReportNumbers → Report
report_in n = record {
  traces = n.traces;
  block0 = tally_in n.block0;
  block1 = tally_in n.block1;
  block2 = tally_in n.block2;
  block3 = tally_in n.block3;
  block4 = tally_in n.block4;
  block5 = tally_in n.block5;
  block6 = tally_in n.block6;
}

-- .. as numbers
abbrev pub report_out : Report → ReportNumbers
report_out r = record {
  traces = r.traces;
  block0 = tally_out r.block0;
  block1 = tally_out r.block1;
  block2 = tally_out r.block2;
  block3 = tally_out r.block3;
  block4 = tally_out r.block4;
  block5 = tally_out r.block5;
  block6 = tally_out r.block6;
}

-- a refusal or 0, and the report
abbrev pub reported_in : ReportedNumbers → Reported
reported_in n = record { number = n.number; report = report_in n.report }

-- .. as numbers
abbrev pub reported_out : Reported → ReportedNumbers
reported_out r = record { number = r.number; report = report_out r.report }
