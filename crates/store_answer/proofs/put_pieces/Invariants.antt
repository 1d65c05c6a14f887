-- `store_answer::put_pieces` meets its contract: what is left to tell, laid behind what stands, is all that is told.
use Prim.Native.Nat.{◌/◌}
use lib.ListN.{length}
use Rattle.store_answer.proofs.Rounds.{Goes}
use Rattle.store_answer.proofs.put_pieces.Given as goal

abbrev pub invariant-loop-p : goal.invariant-loop-p
invariant-loop-p l = Goes l.rows l.main l.initial.out l.out l.at (length l.main / 512) l.p l.a l.w
