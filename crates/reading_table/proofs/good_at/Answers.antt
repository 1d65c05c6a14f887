use Rattle.std.proofs.Common.{arith}
use Rattle.std.proofs.lemmas.Grind.{common_steps}
use Rattle.reading_table.specs.Table.{good_at}
use Rattle.reading_table.proofs.good_at.Goals as goal

pub returns-then-i-eq0 : goal.returns-then-i-eq0
unfolding good_at
returns-then-i-eq0 c = grind (arith, common_steps)

pub returns-else-i-eq0 : goal.returns-else-i-eq0
unfolding good_at
returns-else-i-eq0 c = grind (arith, common_steps)

pub returns-else-in_range_at : goal.returns-else-in_range_at
unfolding good_at
returns-else-in_range_at c = grind (arith, common_steps)
