-- `pattern` meets its contract: after i rounds the first i bytes are the pattern's, which goes on from v.
use mathlib.Core.Path.{◌≡◌}
use Prim.Native.Nat.{◌-◌, ◌≤◌, ◌<◌}
use lib.ListN.{length, drop}
use Rattle.common.specs.Lists.{overwritten}
use Rattle.vectors_text.specs.Patterns.{pattern_from}
use Rattle.vectors_text.proofs.pattern.Given as goal

abbrev pub invariant-loop-b : goal.invariant-loop-b
invariant-loop-b l =
    (l.v < l.m) × (l.b-index ≤ length l.initial.s) × (length l.s ≡ length l.initial.s) × (l.s ≡ overwritten l.b-index (pattern_from l.m l.d (length l.initial.s) l.initial.v) l.initial.s) × (drop l.b-index (pattern_from l.m l.d (length l.initial.s) l.initial.v) ≡ pattern_from l.m l.d (length l.initial.s - l.b-index) l.v)
