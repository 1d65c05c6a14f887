use Rattle.wear.proofs.none.Goals as goal

pub returns : goal.returns
returns c = simp c.no_tally-t.ensures
