use Rattle.c_cycle.proofs.states.cycle_out.Goals as goal

pub returns : goal.returns
returns c = simp c.kind_out.ensures
