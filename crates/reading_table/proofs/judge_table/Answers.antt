use Rattle.std.proofs.Common.{arith}
use Rattle.std.proofs.lemmas.Grind.{common_steps}
use Rattle.reading_table.specs.Table.{table_number}
use Rattle.reading_table.proofs.judge_table.Goals as goal

pub returns-then-shape_wrong : goal.returns-then-shape_wrong
unfolding table_number
returns-then-shape_wrong c = grind (arith, common_steps)

pub returns-then-not-rising : goal.returns-then-not-rising
unfolding table_number
returns-then-not-rising c = grind (arith, common_steps)

pub returns : goal.returns
unfolding table_number
returns c = grind (arith, common_steps)
