-- The table of a load file as text, or why there is none.
use Rattle.std.specs.Prelude.{List, ◌++◌, ℕ, eqb, length, get_or, if◌then◌else◌}
use Rattle.text.specs.Writing.{bytes}
use Rattle.refusal_words.specs.Words.{refused_text}
use Rattle.file_codec.specs.File.{limit, Outcome, refused, made, in_room, left_in, reader_of}
use Rattle.reading_table.specs.Table.{table_number}
use Rattle.table_text.specs.Printed.{table_text}

-- what is said, and on which stream
pub record Said : Type 0 where
  pub line : List ℕ
  pub stream : ℕ

-- a refusal, on standard error
abbrev pub refused_said : ℕ → Said
refused_said n = record { line = refused_text n ++ bytes "\n"; stream = 2 }

-- a payload judged as a table: its lines, on standard output, or its refusal
unfoldable pub table_said : List ℕ → Said
table_said p = if eqb (table_number p) 0 then record { line = table_text p; stream = 1 } else refused_said (table_number p)

-- what the reader makes of a file
abbrev pub file_said : Outcome → Said
file_said (refused n) = refused_said n
file_said (made p) = table_said p

-- how the program is called
abbrev pub usage : List ℕ
usage = bytes "usage: desk print FILE LETTER\n"

-- what is said of a file for a letter, and what is left of the room lent
pub record Shown : Type 0 where
  pub said : Said
  pub room : List ℕ

-- the whole: the letter is one byte, and the reader gives the file's table
unfoldable pub shown_of : List ℕ → List ℕ → List ℕ → Shown
shown_of file letter room =
    if eqb (length letter) 1 then record {
      said = file_said (in_room (length room) (reader_of limit file (get_or letter 0 0)));
      room = left_in room (in_room (length room) (reader_of limit file (get_or letter 0 0)));
    }
    else record { said = record { line = usage; stream = 2 }; room = room }
