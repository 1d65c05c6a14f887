use Rattle.model.proofs.show.Goals as goal

pub returns : goal.returns
returns c = simp (c.get_unit-v.ensures.0, c.index.ensures)
