-- The load file of a table in text, or why there is none.
use Rattle.std.specs.Prelude.{List, ◌++◌, ℕ, ◌+◌, ◌*◌, eqb, ltb, length, get_or, take, Result, Ok, Err, if◌then◌else◌}
use Rattle.text.specs.Digits.{decimal_of}
use Rattle.text.specs.Writing.{bytes}
use Rattle.refusal_words.specs.Words.{refused_text}
use Rattle.file_codec.specs.File.{limit, Outcome, refused, made, in_room, writer_of}
use Rattle.reading_table.specs.Table.{table_number}
use Rattle.reading_table.specs.Faults.{fault_of}
use Rattle.reading_text.specs.declared.WrongLine.{WrongLine}
use Rattle.reading_text.specs.Tables.{Scanned, table_scanned, table_read}

-- the bytes of the longest text that is read
abbrev pub longest : ℕ
longest = 327679

-- what is said, and on which stream
pub record Said : Type 0 where
  pub line : List ℕ
  pub stream : ℕ

-- a complaint, on standard error
abbrev pub complaint : List ℕ → Said
complaint line = record { line = line; stream = 2 }

-- a refusal by its number
abbrev pub refused_line : ℕ → List ℕ
refused_line n = refused_text n ++ bytes "\n"

-- 41, with the line of the knot at fault, counted from 1
abbrev pub fault_line : List ℕ → List ℕ
fault_line p = (bytes "refused 41 in line " ++ decimal_of (fault_of p + 1)) ++ bytes "\n"

-- a refusal of a table
unfoldable pub table_line : ℕ → List ℕ → List ℕ
table_line n p = if eqb n 41 then fault_line p else refused_line n

-- a line that is no knot
abbrev pub wrong_line : ℕ → List ℕ
wrong_line n = (bytes "no knot, or one too many, in line " ++ decimal_of n) ++ bytes "\n"

-- the file, on standard output, or the refusal of its writer
abbrev pub file_said : Outcome → Said
file_said (refused n) = complaint (refused_line n)
file_said (made file) = record { line = file; stream = 1 }

-- a payload judged as a table, then written under a letter into a room
unfoldable pub table_said : ℕ → ℕ → List ℕ → Said
table_said letter room p = if eqb (table_number p) 0 then file_said (in_room room (writer_of limit letter p))
    else complaint (table_line (table_number p) p)

-- what a text says of a table, with the payload that it made
abbrev pub read_said : ℕ → ℕ → Result ℕ WrongLine → List ℕ → Said
read_said letter room (Ok n) p = table_said letter room (take (6 * n) p)
read_said letter room (Err e) p = complaint (wrong_line e.line)

-- .. of a text scanned
abbrev pub scanned_said : ℕ → ℕ → Scanned → Said
scanned_said letter room q = read_said letter room (table_read q.scan) q.payload

-- a text that is too long, and how the program is called
abbrev pub long_line : List ℕ
long_line = bytes "the text is longer than 327679 bytes\n"

-- how the program is called
abbrev pub usage : List ℕ
usage = bytes "usage: desk write LETTER < TEXT > FILE\n"

-- what is said of a text under a letter, and the payload that is left
pub record Made : Type 0 where
  pub said : Said
  pub payload : List ℕ

-- the whole: the letter is one byte, the text is not too long, and it says a table
unfoldable pub made_of : List ℕ → List ℕ → List ℕ → ℕ → Made
made_of text letter payload room =
    if eqb (length letter) 1 then (
    if ltb longest (length text) then record { said = complaint long_line; payload = payload }
    else record {
      said = scanned_said (get_or letter 0 0) room (table_scanned text payload);
      payload = (table_scanned text payload).payload;
    }
    )
    else record { said = complaint usage; payload = payload }
