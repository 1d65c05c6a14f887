-- `loader_blocks::keep_bits` meets its contract: the first i bytes are the wanted ones.
use Rattle.std.proofs.Common.{◌≡◌}
use Rattle.common.specs.Lists.{overwritten}
use Rattle.loader_blocks.proofs.keep_bits.Given as goal

abbrev pub invariant-loop-i : goal.invariant-loop-i
invariant-loop-i l = l.held ≡ overwritten l.i l.wanted l.initial.held
