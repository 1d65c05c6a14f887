-- `by_columns` meets its contract: the columns hold the sums of the bytes from the place on.
use Prim.Native.Nat.{◌+◌, ◌*◌}
use Rattle.file_check.specs.Inner.{From}
use Rattle.file_check.proofs.by_columns.Given as goal

abbrev pub invariant-loop-round : goal.invariant-loop-round
invariant-loop-round l = From l.s (l.few + 16 * l.round) l.bytes
