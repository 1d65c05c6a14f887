-- `file_writer::put_head` meets its contract.
use mathlib.Core.List.{[], ◌∷◌}
use Prim.Native.Nat.{◌<◌, ◌/◌, ◌%◌}
use native.Mathlib.Omega.{arith}
use lib.ListN.{length}
use lib.Seq.{sets-eq, lt-length-sets}
use Rattle.file_writer.proofs.put_head.Goals as goal

pub bounds-out-1 : goal.bounds-out-1
bounds-out-1 c = lt-length-sets c.args.out.now 0 (c.args.letter ∷ []) (omega arith)

pub bounds-out-2 : goal.bounds-out-2
bounds-out-2 c = lt-length-sets c.args.out.now 0 (c.args.letter ∷ c.args.i ∷ []) (omega arith)

pub bounds-out-3 : goal.bounds-out-3
bounds-out-3 c =
    let h : 3 < length c.args.out.now = omega arith in
    lt-length-sets c.args.out.now 0 (c.args.letter ∷ c.args.i ∷ c.args.n ∷ []) h

pub returns : goal.returns
returns c = sets-eq (c.args.letter ∷ c.args.i ∷ c.args.n ∷ c.args.u / 256 ∷ c.args.u % 256 ∷ []) c.args.out.now 0 (omega arith)
