-- `device::units_of_all` meets its contract: the units met so far and those that are left are all of them.
use Rattle.std.proofs.Common.{◌≡◌, ◌+◌, ◌*◌, ◌≤◌}
use lib.ListN.{drop}
use Rattle.device.specs.Blocks.{units_of_all}
use Rattle.device.proofs.units_of_all.Given as goal

abbrev pub invariant-loop-l : goal.invariant-loop-l
invariant-loop-l l = record {
  met : l.units + units_of_all (drop l.l-index l.lengths) ≡ units_of_all l.lengths;
  few : l.units ≤ 4294967295 * l.l-index;
}
