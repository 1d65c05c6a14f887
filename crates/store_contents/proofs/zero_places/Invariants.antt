use Rattle.std.proofs.Common.{◌≡◌, ◌+◌, ◌*◌, ◌-◌}
use Rattle.store_contents.specs.Inner.{zeroed_from}
use Rattle.store_contents.proofs.zero_places.Given as goal

abbrev pub invariant-loop-i : goal.invariant-loop-i
invariant-loop-i l = zeroed_from (l.k - l.i) (l.from + 512 * l.i) l.m ≡ zeroed_from l.k l.from l.initial.m
