use mathlib.Core.Path.{ap, ◌∙◌}
use lib.IntN.{ℤ}
use mir.Syntax.{w32}
use mir.ValLaws.{to_z-of_z}
use Rattle.reading.specs.declared.ReadingAnswer.{ReadingAnswer}
use Rattle.reading.specs.Readings.{reading_answer}
use Rattle.c_readings.specs.Readings.{answer_numbers}
use Rattle.c_functions.specs.Calls.{reading_returned}
use Rattle.c_functions.proofs.tb_table_reading.Goals as goal

pub returns : goal.returns
unfolding reading_returned
returns c =
    let a = c.args in
    c.answer_numbers.ensures ∙ ap (λ (x : ReadingAnswer). answer_numbers x) c.reading_at-answer.ensures.result
    ∙ ap (λ (z : ℤ). answer_numbers (reading_answer a.payload.now z)) (to_z-of_z w32 a.microvolts c.ranges.microvolts)
