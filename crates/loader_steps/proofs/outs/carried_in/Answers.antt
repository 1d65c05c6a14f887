use Rattle.loader_steps.proofs.outs.carried_in.Goals as goal

pub returns-then-own : goal.returns-then-own
returns-then-own c = simp (c.get_unit.ensures.0, c.if-own.true)

pub returns : goal.returns
returns c = simp (c.wide.ensures.0, c.if-own.false)
