use Rattle.units.proofs.carry.Goals as goal

pub returns : goal.returns
returns c = simp c.if-word.false
