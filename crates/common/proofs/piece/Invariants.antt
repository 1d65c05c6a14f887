-- `common::piece` meets its contract: after i turns the first i bytes are the source's and the rest are as they were.
use mathlib.Core.Path.{◌≡◌}
use Rattle.common.specs.Lists.{overwritten}
use Rattle.common.proofs.piece.Given as goal

abbrev pub invariant-loop-i : goal.invariant-loop-i
invariant-loop-i l = l.dst ≡ overwritten l.i l.src l.initial.dst
