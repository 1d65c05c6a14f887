use Rattle.c_records.proofs.records.saying_out.Goals as goal

pub returns-in-Out : goal.returns-in-Out
returns-in-Out c = simp (c.saying_at.ensures, c.cycle_out.ensures, c.in-Out.is)

pub returns-in-Over : goal.returns-in-Over
returns-in-Over c = simp (c.saying_at-in-Over.ensures, c.no_cycle.ensures, c.in-Over.is)

pub returns-in-Refused : goal.returns-in-Refused
returns-in-Refused c = simp (c.saying_at-in-Refused.ensures, c.no_cycle-in-Refused.ensures, c.in-Refused.is)
