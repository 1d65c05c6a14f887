-- Two results that a promise of this crate allows are equal.
use mathlib.Core.Path.{◌≡◌}
use Rattle.common.specs.Choice.{Unique}
use Rattle.common.proofs.Choice.{only}
use Rattle.reading.specs.declared.ReadingAnswer.{ReadingAnswer}
use Rattle.c_readings.specs.declared.ReadingNumbers.{ReadingNumbers}
use Rattle.c_readings.specs.Readings.{answer_numbers}

pub answer_numbers_unique : (answer : ReadingAnswer) → Unique (λ (r : ReadingNumbers). r ≡ answer_numbers answer)
answer_numbers_unique answer = only (answer_numbers answer)
