use Rattle.c_cycle.proofs.states.device_in.Goals as goal

pub returns : goal.returns
returns c = simp c.part_in.ensures
