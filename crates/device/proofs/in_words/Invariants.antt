-- `device::in_words` meets its contract: the lengths that were met are halved, the others are as they were.
use Rattle.std.proofs.Common.{◌≡◌, ◌/◌}
use Rattle.std.specs.Prelude.{map}
use Rattle.common.specs.Lists.{overwritten}
use Rattle.device.proofs.in_words.Given as goal

abbrev pub invariant-loop-l : goal.invariant-loop-l
invariant-loop-l l = l.l-items ≡ overwritten l.l-index (map (λ x. x / 2) l.fn.s.lengths) l.fn.s.lengths
