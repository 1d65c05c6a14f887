-- The refusals of a reading from a file, in their order, and the temperature of a reading.
use Rattle.std.specs.Prelude.{List, ◌∷◌, ℕ, ltb, ℤ, length, Float}
use Rattle.common.specs.Numbers.{Row, row}
use Rattle.file_codec.specs.File.{limit, reader_of, in_room, left_in, read_rows, payload_of, blocks_in}
use Rattle.reading_table.specs.Table.{table_rows}
use Rattle.reading.specs.declared.Reading.{Reading}
use Rattle.reading.specs.declared.Reading.TheVariants.{Temperature, Below, Above}
use Rattle.reading.specs.declared.ReadingAnswer.{ReadingAnswer}
use Rattle.reading.specs.Readings.{answer_as}

-- the temperature that a reading carries, in each of its cases
abbrev pub degrees : Reading → Float
degrees (Temperature t) = t
degrees (Below t) = t
degrees (Above t) = t

-- the payload of a file, judged or not
abbrev pub payload_in : List ℕ → List ℕ
payload_in f = payload_of (blocks_in f) f

-- the answer from a file for a letter and so much room, and what is left in the room
abbrev pub answer_from : List ℕ → ℕ → List ℕ → ℤ → ReadingAnswer
answer_from f letter room x = answer_as x (in_room (length room) (reader_of limit f letter))

-- .. what is left in the room
abbrev pub room_left : List ℕ → ℕ → List ℕ → List ℕ
room_left f letter room = left_in room (in_room (length room) (reader_of limit f letter))

-- the reader's refusals: 30, then block by block 38 or else 31, then 32, 33, 34; then 35, then 37; and after them what is asked of the
-- table
abbrev pub reader_rows : List ℕ → ℕ → ℕ → List Row → List Row
reader_rows f letter room after = read_rows limit f letter (row 37 (ltb room (length (payload_in f))) ∷ after)

-- all refusals of a reading from a file: the reader's, then 40, then 41 (R-reading-3)
abbrev pub answer_rows : List ℕ → ℕ → ℕ → List Row
answer_rows f letter room = reader_rows f letter room (table_rows (payload_in f))
