-- `script_run::item` and `script_run::list`, which call each other. The measure is what is left: levels to open and
-- bytes to read. From a list to an item neither grows, from an item to its list both fall; along a list the bytes fall.
use Rattle.std.proofs.Common.{◌≡◌, ◌≤◌, ◌<◌, ◌*◌, length, ◌+◌, ◌-◌}
use Rattle.script_run.specs.Inner.{Leads, Rounds, AgainRead}
use Rattle.script_run.proofs.+item_list.Given as goal

abbrev pub decreases-item : goal.decreases-item
decreases-item l = 2 * (l.depth + (length l.text.now - l.x.at))

abbrev pub decreases-list : goal.decreases-list
decreases-list l = 2 * (l.depth + (length l.text.now - l.x.at)) + 1

abbrev pub invariant-item-loop : goal.invariant-item-loop
invariant-item-loop l =
    (l.y.at ≡ l.initial.y.at) × (l.y.left ≡ l.initial.y.left) × (l.y.used ≤ length l.out)
    × (l.z.at ≤ length l.text) × (l.initial.y.at ≤ l.z.at) × (l.z.used ≤ length l.out)
    × (l.counter < l.n → Rounds l.text l.initial.y (l.depth - 1) l.n l.y (l.n - l.counter) l.initial.array l.residue l.initial.out l.array l.out)
    × (l.n ≤ l.counter → AgainRead l.text l.initial.y (l.depth - 1) l.n l.z l.initial.array l.residue l.initial.out l.array l.out)

abbrev pub invariant-list-loop-y : goal.invariant-list-loop-y
invariant-list-loop-y l =
    (l.y.at ≤ length l.text) × (l.y.used ≤ length l.out) × (l.initial.y.at ≤ l.y.at)
    × Leads l.text l.depth l.initial.y l.y l.initial.array l.residue l.initial.out l.array l.out
    × (length l.array ≡ length l.initial.array) × (length l.out ≡ length l.initial.out)

abbrev pub decreases-list-loop-y : goal.decreases-list-loop-y
decreases-list-loop-y l = length l.text - l.y.at
