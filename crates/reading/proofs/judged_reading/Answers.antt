use mathlib.Core.Path.{sym, ap, ◌∙◌}
use mir.Syntax.{w32}
use mir.ValLaws.{to_z-of_z}
use borrow.Author.Tests.{eq-eqb, ne_eqb}
use Rattle.reading_table.proofs.Judged.{shape_right, judged_says}
use Rattle.reading.specs.declared.ReadingAnswer.TheVariants.{Read}
use Rattle.reading.specs.Readings.{reading_of, table_answer}
use Rattle.reading.proofs.judged_reading.Goals as goal

pub returns-then-n-ne0 : goal.returns-then-n-ne0
unfolding table_answer
returns-then-n-ne0 c = simp (← c.judge_table-n.ensures, ne_eqb _ _ c.if-n-ne0.true)

-- what was let through has two knots or more
pub judged_at-requires : goal.judged_at-requires
judged_at-requires c = let j = sym c.judge_table-n.ensures ∙ c.if-n-ne0.false in (shape_right _ (judged_says _ j).0).1

pub returns : goal.returns
unfolding table_answer
returns c = simp (← c.judge_table-n.ensures, eq-eqb _ _ c.if-n-ne0.false) (ap Read (c.judged_at.ensures ∙ ap (reading_of c.args.payload.now) (to_z-of_z w32 c.args.x c.ranges.x)))
