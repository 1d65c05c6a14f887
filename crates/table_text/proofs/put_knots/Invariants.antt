-- `table_text::put_knots` meets its contract: the lines that are left, laid behind those that stand, are the table's.
use Rattle.table_text.proofs.Rounds.{Goes}
use Rattle.table_text.proofs.put_knots.Given as goal

abbrev pub invariant-loop-i : goal.invariant-loop-i
invariant-loop-i l = Goes l.fn.out l.payload l.out l.n l.i l.at
