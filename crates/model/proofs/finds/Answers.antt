use Rattle.model.proofs.finds.Goals as goal

pub returns-in-Program : goal.returns-in-Program
returns-in-Program c = simp (c.index.ensures, c.in-Program.is)

pub returns-in-Erase : goal.returns-in-Erase
returns-in-Erase c = simp (c.size.ensures, c.in-Erase.is)

pub returns-in-CutProgram : goal.returns-in-CutProgram
returns-in-CutProgram c = simp (c.index-in-CutProgram.ensures, c.in-CutProgram.is)

pub returns-in-CutErase : goal.returns-in-CutErase
returns-in-CutErase c = simp (c.length.ensures, c.size-in-CutErase.ensures, c.in-CutErase.is)
