use Rattle.c_records.proofs.runs.ran_out.Goals as goal

pub returns : goal.returns
returns c = simp c.state_back.ensures
