use Rattle.loader_steps.proofs.outs.cycle_in.Goals as goal

pub returns : goal.returns
returns c = simp (c.cycle_at.ensures, c.carried_in.ensures, c.address_in-address.ensures, c.stage_is-e.ensures)
