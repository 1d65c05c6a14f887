use Rattle.c_wear.proofs.report_out.Goals as goal

pub returns : goal.returns
returns c = simp (c.tally_out-7.ensures, c.tally_out-6.ensures, c.tally_out-5.ensures, c.tally_out-4.ensures, c.tally_out-3.ensures, c.tally_out-2.ensures, c.tally_out.ensures)
