-- `common::copy` meets its contract: after k pieces the first 512 k bytes are the source's and the rest are as they were, and so behind
-- them after i bytes.
use mathlib.Core.Path.{◌≡◌}
use Prim.Native.Nat.{◌*◌}
use Rattle.common.specs.Lists.{overwritten}
use Rattle.common.proofs.copy.Given as goal

abbrev pub invariant-loop-k : goal.invariant-loop-k
invariant-loop-k l = l.dst ≡ overwritten (512 * l.k) l.src l.initial.dst

abbrev pub invariant-loop-i : goal.invariant-loop-i
invariant-loop-i l = l.dst ≡ overwritten l.i l.src l.fn.dst
