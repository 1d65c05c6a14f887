use Rattle.units.proofs.units_in.Goals as goal

pub returns-then-word : goal.returns-then-word
returns-then-word c = simp c.if-word.true
