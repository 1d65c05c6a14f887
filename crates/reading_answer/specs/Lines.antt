-- The line that a reading prints.
use Rattle.std.specs.Prelude.{Bool, not, ◌||◌, List, ◌++◌, ℕ, eqb, ℤ, Float, Option, Some, None, length, get_or, if◌then◌else◌}
use Rattle.text.specs.Writing.{bytes}
use Rattle.refusal_words.specs.Words.{file_words, refused_text}
use Rattle.file_codec.specs.File.{limit, in_room, left_in, reader_of}
use Rattle.reading_print.specs.Texts.{temperature_text}
use Rattle.reading.specs.declared.Reading.{Reading}
use Rattle.reading.specs.declared.Reading.TheVariants.{Temperature, Below, Above}
use Rattle.reading.specs.declared.ReadingAnswer.{ReadingAnswer}
use Rattle.reading.specs.declared.ReadingAnswer.TheVariants.{Read, Refused}
use Rattle.reading.specs.Readings.{answer_as}
use Rattle.reading_text.specs.Numbers.{number_told}

-- what a refusal means: the file's length, the room, the table, or another of the file
unfoldable pub read_words : ℕ → List ℕ
read_words n =
    if eqb n 30 then bytes "the file's length is wrong\n"
    else if eqb n 37 then bytes "there is no room for the payload\n"
    else if eqb n 40 then bytes "the payload is no whole number of knots, or too few\n"
    else if eqb n 41 then bytes "the microvolts are out of range or do not rise\n"
    else file_words n

-- a refusal: its number and its words
abbrev pub refused_line : ℕ → List ℕ
refused_line n = (refused_text n ++ bytes ": ") ++ read_words n

-- a temperature and a newline
abbrev pub degrees : Float → List ℕ
degrees t = temperature_text t ++ bytes "\n"

-- a reading: a temperature; or the voltage is below or above the table, with the temperature at its end
abbrev pub reading_line : Reading → List ℕ
reading_line (Temperature t) = degrees t
reading_line (Below t) = bytes "below the table, which begins at " ++ degrees t
reading_line (Above t) = bytes "above the table, which ends at " ++ degrees t

-- .. or the words of a refusal
abbrev pub answer_line : ReadingAnswer → List ℕ
answer_line (Read r) = reading_line r
answer_line (Refused n) = refused_line n

-- how the program is called
abbrev pub usage : List ℕ
usage = bytes "usage: desk read FILE LETTER MICROVOLTS\n"

-- what a call comes to: a line, the stream that it goes to, and what is left of the room lent
pub record Answered : Type 0 where
  pub line : List ℕ
  pub stream : ℕ
  pub room : List ℕ

-- a call that is none: how it is called, on standard error
abbrev pub misused : List ℕ → Answered
misused room = record { line = usage; stream = 2; room = room }

-- a wrong call: other than five words with the program's own and `read`, or a letter of another length
unfoldable pub call_wrong : ℕ → List ℕ → Bool
call_wrong count letter = not (eqb count 5) || not (eqb (length letter) 1)

-- the microvolts are a number, or they are none
abbrev pub read_by : Option ℤ → List ℕ → ℕ → List ℕ → Answered
read_by (Some x) file letter room =
    record {
      line = answer_line (answer_as x (in_room (length room) (reader_of limit file letter)));
      stream = 1;
      room = left_in room (in_room (length room) (reader_of limit file letter));
    }
read_by None file letter room = misused room

-- the whole: words of a call, so many with the program's own; file, letter, microvolts; and the room lent
unfoldable pub answered : ℕ → List ℕ → List ℕ → List ℕ → List ℕ → Answered
answered count file letter volts room = if call_wrong count letter then misused room
    else read_by (number_told volts) file (get_or letter 0 0) room
