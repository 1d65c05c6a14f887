use Rattle.c_wear.proofs.report_in.Goals as goal

pub returns : goal.returns
returns c = simp (c.tally_in-7.ensures, c.tally_in-6.ensures, c.tally_in-5.ensures, c.tally_in-4.ensures, c.tally_in-3.ensures, c.tally_in-2.ensures, c.tally_in.ensures)
