-- The reading of a voltage: by a payload, and from a file.
use Rattle.std.specs.Prelude.{Bool, not, ◌&&◌, List, [], ◌∷◌, ℕ, ◌+◌, ◌-◌, eqb, ℤ, Float, if◌then◌else◌}
use Rattle.std.specs.Int.Signed.{lt_z}
use Rattle.std.specs.Float.{binary64}
use Rattle.std.specs.Float.Ieee.{of_int}
use Rattle.common.specs.Numbers.{Row, row, given}
use Rattle.file_codec.specs.File.{Outcome, refused, made}
use Rattle.reading_pair.specs.declared.Pair.{Pair}
use Rattle.reading_pair.specs.Pairs.{pair_of, interpolated}
use Rattle.reading_table.specs.Table.{volts_of, tenths_of, knots, rises_to, shape_wrong, table_number}
use Rattle.reading_table.specs.Search.{seek_of}
use Rattle.reading.specs.declared.Reading.{Reading}
use Rattle.reading.specs.declared.Reading.TheVariants.{Temperature, Below, Above}
use Rattle.reading.specs.declared.ReadingAnswer.{ReadingAnswer}
use Rattle.reading.specs.declared.ReadingAnswer.TheVariants.{Read, Refused}

-- knot i's temperature, as f64
abbrev pub heat_of : List ℕ → ℕ → Float
heat_of p i = of_int binary64 (tenths_of p i)

-- knots i and i + 1 of a payload
unfoldable pub pair_at : List ℕ → ℕ → Pair
pair_at p i = pair_of (volts_of p i) (tenths_of p i) (volts_of p (i + 1)) (tenths_of p (i + 1))

-- below the first knot, above the last, or between two: by the pair that the search finds (R-reading-3)
unfoldable pub reading_of : List ℕ → ℤ → Reading
reading_of p x =
    if lt_z x (volts_of p 0) then Below (heat_of p 0)
    else if lt_z (volts_of p (knots p - 1)) x then Above (heat_of p (knots p - 1))
    else Temperature (interpolated (pair_at p (seek_of p x)) (of_int binary64 x))

-- the answer by a number: 0 lets the reading through
abbrev pub answer_by : ℕ → Reading → ReadingAnswer
answer_by n r = if eqb n 0 then Read r else Refused n

-- 41, of the first knot and the last: out of range, or not rising
unfoldable pub ends_wrong : List ℕ → Bool
ends_wrong p = not (rises_to p 0 (knots p - 1))

-- 41, of the pair that the search finds, where x is neither below the first knot nor above the last
unfoldable pub pair_wrong : List ℕ → ℤ → Bool
pair_wrong p x =
    not (lt_z x (volts_of p 0)) && (not (lt_z (volts_of p (knots p - 1)) x) && not (rises_to p (seek_of p x) (seek_of p x + 1)))

-- the refusals of a payload that was not judged: 40 by its length, and 41 by the four knots that the reading is made of
-- (R-number-40, R-number-41)
abbrev pub reading_rows : List ℕ → ℤ → List Row
reading_rows p x = row 40 (shape_wrong p) ∷ row 41 (ends_wrong p) ∷ row 41 (pair_wrong p x) ∷ []

-- the first refusal of these, 0 where nothing refuses
unfoldable pub reading_number : List ℕ → ℤ → ℕ
reading_number p x = given (reading_rows p x)

-- a payload that was not judged: its refusal, or its reading
unfoldable pub reading_answer : List ℕ → ℤ → ReadingAnswer
reading_answer p x = answer_by (reading_number p x) (reading_of p x)

-- a payload judged as a whole, then read: 40 or 41, or its reading
unfoldable pub table_answer : List ℕ → ℤ → ReadingAnswer
table_answer p x = answer_by (table_number p) (reading_of p x)

-- the answer by what the load file's reader makes of a file in the room lent: its refusal, or the answer of the payload (R-reading-3)
abbrev pub answer_as : ℤ → Outcome → ReadingAnswer
answer_as x (refused n) = Refused n
answer_as x (made p) = table_answer p x

-- an answer by its cases: the refusal's number, 0 where there is none, and the reading given: 0 a temperature, 1 below the table,
-- 2 above it, with its tenths (R-promise-2)
abbrev pub reading_told : Reading → ℕ × Float
reading_told (Temperature t) = (0, t)
reading_told (Below t) = (1, t)
reading_told (Above t) = (2, t)

-- .. of a whole answer
abbrev pub answer_told : ReadingAnswer → ℕ × List (ℕ × Float)
answer_told (Read reading) = (0, reading_told reading ∷ [])
answer_told (Refused n) = (n, [])

-- the side of the table where a voltage lies, and the tenths there
unfoldable pub side_of : List ℕ → ℤ → ℕ
side_of p x = if lt_z x (volts_of p 0) then 1 else if lt_z (volts_of p (knots p - 1)) x then 2 else 0

-- .. the tenths of a degree at a voltage
unfoldable pub heat_at : List ℕ → ℤ → Float
heat_at p x =
    if lt_z x (volts_of p 0) then heat_of p 0
    else if lt_z (volts_of p (knots p - 1)) x then heat_of p (knots p - 1)
    else interpolated (pair_at p (seek_of p x)) (of_int binary64 x)

-- what a payload tells by a number: 0 lets the reading through
unfoldable pub told_at : ℕ → List ℕ → ℤ → ℕ × List (ℕ × Float)
told_at n p x = if eqb n 0 then (0, (side_of p x, heat_at p x) ∷ []) else (n, [])

-- what a file tells, by what its reader makes of it
abbrev pub told_as : ℤ → Outcome → ℕ × List (ℕ × Float)
told_as x (refused n) = (n, [])
told_as x (made p) = told_at (table_number p) p x
