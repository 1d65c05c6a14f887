use Rattle.loader_held_run.proofs.stop.Goals as goal

-- src/lib.rt:55:1
pub returns : goal.returns
returns c = simp (c.resting.ensures, c.ended_by.ensures)
