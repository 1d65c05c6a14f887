use Rattle.table_engine.proofs.respond.Goals as goal

pub returns-in-Read : goal.returns-in-Read
returns-in-Read c = simp (c.read.ensures, c.in-Read.is)

pub returns-in-Write : goal.returns-in-Write
returns-in-Write c = simp (c.write.ensures, c.action.ensures, c.in-Write.is)

pub returns-in-Idle : goal.returns-in-Idle
returns-in-Idle c = simp (c.settled_by.ensures, c.in-Idle.is)
