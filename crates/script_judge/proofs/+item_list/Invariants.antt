-- `script_judge::item` and `script_judge::list`, which call each other. The measure is what is left: levels to open
-- and bytes to read. From a list to an item neither grows, from an item to its list both fall; along a list the bytes fall.
use Rattle.std.proofs.Common.{◌≤◌, ◌*◌, length, ◌+◌, ◌-◌}
use Rattle.script_judge.specs.Inner.{Sound, Onward}
use Rattle.script_judge.proofs.+item_list.Given as goal

abbrev pub decreases-item : goal.decreases-item
decreases-item l = 2 * (l.depth + (length l.text.now - l.x.at))

abbrev pub decreases-list : goal.decreases-list
decreases-list l = 2 * (l.depth + (length l.text.now - l.x.at)) + 1

abbrev pub invariant-list-loop-z : goal.invariant-list-loop-z
invariant-list-loop-z l = (l.y.at ≤ length l.text) × Sound l.y × (l.initial.y.at ≤ l.y.at) × Onward l.text l.depth l.p l.initial.y l.must l.y l.due × (l.p ≤ 9999)

abbrev pub decreases-list-loop-z : goal.decreases-list-loop-z
decreases-list-loop-z l = length l.text - l.y.at
