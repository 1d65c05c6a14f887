-- `vectors_run::all` is safe and ends: each round goes on to a later row, and array, wanted and scratch keep their lengths.
use Rattle.std.proofs.Common.{◌≡◌, ◌-◌, ◌≤◌, length}
use Rattle.vectors_run.proofs.all.Given as goal

abbrev pub invariant-loop-at : goal.invariant-loop-at
invariant-loop-at g l = (l.at ≤ length l.text) × (length l.array ≡ length l.initial.array) × (length l.wanted ≡ length l.initial.wanted) × (length l.scratch ≡ length l.initial.scratch)

abbrev pub decreases-loop-at : goal.decreases-loop-at
decreases-loop-at g l = length l.text - l.at
