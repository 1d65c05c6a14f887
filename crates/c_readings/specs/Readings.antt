-- What a reading answers, as plain numbers.
use Rattle.std.specs.Prelude.{ℕ, pos, Float}
use Rattle.std.specs.Float.{binary64}
use Rattle.std.specs.Float.Ieee.{of_int}
use Rattle.reading.specs.declared.Reading.{Reading}
use Rattle.reading.specs.declared.Reading.TheVariants.{Temperature, Below, Above}
use Rattle.reading.specs.declared.ReadingAnswer.{ReadingAnswer}
use Rattle.reading.specs.declared.ReadingAnswer.TheVariants.{Read, Refused}
use Rattle.c_readings.specs.declared.ReadingNumbers.{ReadingNumbers}

-- a reading by its numbers
abbrev pub reading_as : ℕ → ℕ → Float → ReadingNumbers
reading_as answer number tenths = record { answer = answer; number = number; tenths = tenths }

-- 0 a temperature, 1 below the table, 2 above it, each with its tenths
abbrev pub reading_out : Reading → ReadingNumbers
reading_out (Temperature t) = reading_as 0 0 t
reading_out (Below t) = reading_as 1 0 t
reading_out (Above t) = reading_as 2 0 t

-- 3 refused, with the number, and 0 tenths
abbrev pub answer_numbers : ReadingAnswer → ReadingNumbers
answer_numbers (Read reading) = reading_out reading
answer_numbers (Refused n) = reading_as 3 n (of_int binary64 (pos 0))
