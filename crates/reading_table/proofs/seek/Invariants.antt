use Rattle.reading_table.specs.Search.{rounds_left}
use Rattle.reading_table.proofs.Steps.{Halved}
use Rattle.reading_table.proofs.seek.Given as goal

abbrev pub invariant-loop-lo : goal.invariant-loop-lo
invariant-loop-lo l = Halved l.s l.x l.n l.lo l.hi

abbrev pub decreases-loop-lo : goal.decreases-loop-lo
decreases-loop-lo l = rounds_left l.lo l.hi
