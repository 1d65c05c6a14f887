use Rattle.loader_steps.proofs.front.response_at.Goals as goal

pub returns : goal.returns
returns c = simp c.saying.ensures
