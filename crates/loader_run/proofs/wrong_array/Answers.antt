use Rattle.loader_run.proofs.wrong_array.Goals as goal

pub returns : goal.returns
returns c = simp c.size.ensures
