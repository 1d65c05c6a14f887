use Rattle.c_cycle.proofs.states.answer_out.Goals as goal

pub returns : goal.returns
returns c = simp (c.state_back.ensures, c.value_out.ensures, c.seen_out.ensures)
