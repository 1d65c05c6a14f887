use Rattle.loader_held_run.proofs.begun.Goals as goal

-- src/lib.rt:146:1
pub returns : goal.returns
returns c = simp c.resting.ensures
