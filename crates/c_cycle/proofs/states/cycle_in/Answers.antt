use Rattle.c_cycle.proofs.states.cycle_in.Goals as goal

pub returns : goal.returns
returns c = simp (c.oe_in.ensures, c.pins_in.ensures, c.kind_in.ensures)
