use Rattle.c_wear.proofs.reported_out.Goals as goal

pub returns : goal.returns
returns c = simp c.report_out.ensures
