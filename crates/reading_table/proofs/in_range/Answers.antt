-- `reading_table::in_range` meets its contract.
use Rattle.std.proofs.Common.{arith}
use Rattle.std.proofs.lemmas.Int.{ints}
use Rattle.std.proofs.lemmas.Bool.Decides.{nat_tests}
use Rattle.reading_table.specs.Table.{in_range}
use Rattle.reading_table.proofs.in_range.Goals as goal

pub returns : goal.returns
unfolding in_range
returns c = grind (arith, ints, nat_tests)
