-- What is said of a call on a store: the words of the call, what is asked of the part, and the line, the file or the image that comes of
-- it.
use Rattle.std.specs.Prelude.{Bool, true, false, not, ◌||◌, List, [], ◌++◌, ℕ, min, eqb, length, get_or, take, drop, if◌then◌else◌}
use Rattle.text.specs.Writing.{bytes, behind}
use Rattle.device.specs.declared.Part.{Part}
use Rattle.device.specs.declared.Device.{Device}
use Rattle.device.specs.Parts.{length_of}
use Rattle.model_types.specs.declared.Pins.{Pins}
use Rattle.model_states.specs.States.{fresh_state}
use Rattle.file_codec.specs.File.{Outcome, in_room, left_in}
use Rattle.reading.specs.declared.ReadingAnswer.{ReadingAnswer}
use Rattle.reading.specs.declared.ReadingAnswer.TheVariants.{Read, Refused}
use Rattle.reading.specs.Readings.{answer_as}
use Rattle.std.specs.Prelude.{ℤ, Option, Some, None}
use Rattle.reading_text.specs.Numbers.{number_told}
use Rattle.reading_answer.specs.Lines.{reading_line}
use Rattle.verify_answer.specs.Answers.{numeral_of}
use Rattle.store_find.specs.declared.Found.{Found}
use Rattle.store_find.specs.Finds.{found_as, read_by}
use Rattle.store.specs.Stores.{main_of, part_number, found_on, ChangeLeft, drop_left, add_left}
use Rattle.store_answer.specs.Words.{refused_line, change_line}
use Rattle.store_answer.specs.Listing.{list_of}
use Rattle.store_told.specs.declared.Said.{Said}

-- a word of the call is one letter: L list, F find, R read, D drop, A add
unfoldable pub is_change : ℕ → Bool
is_change b = eqb b 68 || eqb b 65

-- one of the five
unfoldable pub is_word : ℕ → Bool
is_word b = ((eqb b 76 || eqb b 70) || eqb b 82) || is_change b

-- a wrong call: other than eight words with the program's own and `store`, a word of another length or none of the five, a letter of
-- another length
unfoldable pub call_wrong : ℕ → List ℕ → List ℕ → Bool
call_wrong count word letter =
    ((not (eqb count 8) || not (eqb (length word) 1)) || not (is_word (get_or word 0 0))) || not (eqb (length letter) 1)

-- how the program is called
abbrev pub usage : List ℕ
usage = bytes "usage: desk store L|F|R|D|A IMAGE DEVICE LETTER MICROVOLTS FILE\n"

-- the part by the digit of its number, in byte mode; a device with it; RP# high and 12 V
abbrev pub part_of : List ℕ → Part
part_of device = record { number = numeral_of device; word = false }

-- a device with that part; its times do not matter to a call
abbrev pub device_of : Part → Device
device_of part = record { part = part; program = 1; erase = 1; suspend = 1 }

-- RP# high and 12 V
abbrev pub loading : Pins
loading = record { rp = 1; wp = 0; vpp = 12000 }

-- what a list says: the map and the rows, or the refusal
unfoldable pub list_line : Part → List ℕ → List ℕ
list_line part xs = if eqb (part_number part (length xs)) 0 then list_of (main_of part xs) else refused_line (part_number part (length xs))

-- what a reading says: a temperature, below or above the table, or the refusal
abbrev pub answer_line : ReadingAnswer → List ℕ
answer_line (Read r) = reading_line r
answer_line (Refused n) = refused_line n

-- what a find says: the refusal, and nothing where the file is there
unfoldable pub find_line : Found → List ℕ
find_line f = if eqb f.number 0 then [] else refused_line f.number

-- what a question comes to: a line, the stream that it goes to, so many bytes of a file, and the room that the file or its payload went
-- into
pub record Asked : Type 0 where
  pub line : List ℕ
  pub stream : ℕ
  pub filled : ℕ
  pub memory : List ℕ

-- a list; a find; a reading at x
abbrev pub list_asked : Part → List ℕ → List ℕ → Asked
list_asked part xs room = record { line = list_line part xs; stream = 1; filled = 0; memory = room }

-- a find: the file that is there, or the words of the refusal
abbrev pub find_asked : Outcome → List ℕ → Asked
find_asked o room = record { line = find_line (found_as o); stream = 2; filled = (found_as o).length; memory = left_in room o }

-- a reading by the file that is found
abbrev pub read_asked : ReadingAnswer → Outcome → List ℕ → Asked
read_asked r o room = record { line = answer_line r; stream = 1; filled = 0; memory = left_in room o }

-- what is no call: the usage
abbrev pub misasked : List ℕ → Asked
misasked room = record { line = usage; stream = 2; filled = 0; memory = room }

-- the microvolts are a number, or they are none
abbrev pub read_by_said : Option ℤ → Outcome → List ℕ → Asked
read_by_said (Some x) o room = read_asked (answer_as x o) o room
read_by_said None o room = misasked room

-- the question that a word asks
unfoldable pub asked : ℕ → Part → List ℕ → ℕ → List ℕ → List ℕ → Asked
asked b part xs ℓ volts room =
    if eqb b 76 then list_asked part xs room
    else if eqb b 70 then find_asked (in_room (length room) (found_on part xs ℓ)) room
    else read_by_said (number_told volts) (in_room (length room) (read_by ℓ (found_on part xs ℓ))) room

-- the bytes of the main block, as many as the rooms lent have
abbrev pub bytes_of : Part → List ℕ → List ℕ → ℕ
bytes_of part memory scratch = min (length_of part 3) (min (length memory) (length scratch))

-- a change on a fresh device, in the front of the rooms lent: an add, or a drop
unfoldable pub change_of : ℕ → Part → List ℕ → List ℕ → List ℕ → List ℕ → ℕ → ChangeLeft
change_of b part xs memory scratch f ℓ =
    if eqb b 65
    then add_left (device_of part) fresh_state loading xs (take (bytes_of part memory scratch) memory)
    (take (bytes_of part memory scratch) scratch) f ℓ
    else drop_left (device_of part) fresh_state loading xs (take (bytes_of part memory scratch) memory)
    (take (bytes_of part memory scratch) scratch) ℓ

-- what a call comes to: a line, the stream that it goes to, so many bytes of a file, whether the image was changed by a run that ended
-- well, and what is left of the image and the rooms lent
pub record Answered : Type 0 where
  pub line : List ℕ
  pub stream : ℕ
  pub filled : ℕ
  pub changed : Bool
  pub image : List ℕ
  pub memory : List ℕ
  pub scratch : List ℕ

-- a question changes neither image nor scratch
abbrev pub shown : Asked → List ℕ → List ℕ → Answered
shown q xs scratch =
    record { line = q.line; stream = q.stream; filled = q.filled; changed = false; image = xs; memory = q.memory; scratch = scratch }

-- a change, told by its end and the erases of block 3 that it began
abbrev pub ended : ChangeLeft → ℕ → List ℕ → List ℕ → Answered
ended left n memory scratch =
    record {
      line = change_line left.ran.end left.ran.state.wear.block3;
      stream = 2;
      filled = 0;
      changed = eqb left.ran.end 0;
      image = left.bytes;
      memory = left.memory ++ drop n memory;
      scratch = left.scratch ++ drop n scratch;
    }

-- the whole: words of a call, so many with the program's own; word, image, device, letter, microvolts, file; and the rooms lent
unfoldable pub answered : ℕ → List ℕ → List ℕ → List ℕ → List ℕ → List ℕ → List ℕ → List ℕ → List ℕ → Answered
answered count word xs device letter volts f memory scratch =
    if call_wrong count word letter then shown (misasked memory) xs scratch
    else if is_change (get_or word 0 0)
    then ended (change_of (get_or word 0 0) (part_of device) xs memory scratch f (get_or letter 0 0))
    (bytes_of (part_of device) memory scratch)
    memory scratch
    else shown (asked (get_or word 0 0) (part_of device) xs (get_or letter 0 0) volts memory) xs scratch

-- .. as it is given back, with the line in front of out
abbrev pub said_on : List ℕ → List ℕ → ℕ → ℕ → Bool → Said
said_on out line stream filled changed = record { used = behind out 0 line; stream = stream; filled = filled; changed = changed }

-- .. of a call that changes nothing
abbrev pub asked_on : List ℕ → Asked → Said
asked_on out q = said_on out q.line q.stream q.filled false

-- .. of any call
abbrev pub answered_on : List ℕ → Answered → Said
answered_on out a = said_on out a.line a.stream a.filled a.changed
