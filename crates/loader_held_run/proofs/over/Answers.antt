use Rattle.loader_held_run.proofs.over.Goals as goal

-- src/lib.rt:166:1
pub returns : goal.returns
returns c = simp (c.end_address.ensures, c.stage_is-e.ensures)
