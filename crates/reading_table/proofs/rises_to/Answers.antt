-- `reading_table::rises_to` meets its contract.
use Rattle.std.proofs.Common.{arith}
use Rattle.std.proofs.lemmas.Int.{to_z-of_z}
use Rattle.std.proofs.lemmas.Bool.Decides.{nat_tests}
use Rattle.reading_table.specs.Table.{rises_to}
use Rattle.reading_table.proofs.rises_to.Goals as goal

pub returns-then-in_range-2 : goal.returns-then-in_range-2
unfolding rises_to
returns-then-in_range-2 c = grind (arith, nat_tests, to_z-of_z)

pub returns-else-in_range-2 : goal.returns-else-in_range-2
unfolding rises_to
returns-else-in_range-2 c = grind (arith, nat_tests, to_z-of_z)
