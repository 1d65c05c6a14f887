use Rattle.c_cycle.proofs.states.part_in.Goals as goal

pub returns : goal.returns
returns c = simp c.number_in.ensures
