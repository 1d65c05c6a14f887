-- `vectors_wear::all` is safe and ends: each round goes on to a later row, and both slices keep their lengths.
use Rattle.std.proofs.Common.{◌≡◌, ◌-◌, ◌≤◌, length}
use Rattle.vectors_wear.proofs.all.Given as goal

abbrev pub invariant-loop-at : goal.invariant-loop-at
invariant-loop-at g l = (l.at ≤ length l.text) × ((length l.numbers ≡ length l.initial.numbers) × (length l.counts ≡ length l.initial.counts))

abbrev pub decreases-loop-at : goal.decreases-loop-at
decreases-loop-at g l = length l.text - l.at
