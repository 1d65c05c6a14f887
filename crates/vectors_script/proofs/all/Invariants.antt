-- `vectors_script::all` is safe and ends: one row a turn, and the lent slices keep their lengths.
use Rattle.std.proofs.Common.{◌≡◌, ◌-◌, ◌≤◌, length}
use Rattle.vectors_script.proofs.all.Given as goal

abbrev pub invariant-loop-at : goal.invariant-loop-at
invariant-loop-at g l = (l.at ≤ length l.rows) × (l.h.len ≤ length l.text) × (l.h.number ≤ 9999) × (length l.text ≡ length l.initial.text) × (length l.array ≡ length l.initial.array) × (length l.out ≡ length l.initial.out)

abbrev pub decreases-loop-at : goal.decreases-loop-at
decreases-loop-at g l = length l.rows - l.at
