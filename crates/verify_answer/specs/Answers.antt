-- The line that a verify prints: what is asked, the verify itself, and its result in words.
use Rattle.std.specs.Prelude.{Bool, false, not, ◌&&◌, ◌||◌, List, [], ◌++◌, ℕ, min, eqb, ltb, length, get_or, take, drop, replicate}
use Rattle.std.specs.Prelude.{if◌then◌else◌}
use Rattle.text.specs.Digits.{is_digit, digit_of, spelled}
use Rattle.text.specs.Writing.{bytes}
use Rattle.refusal_words.specs.Words.{file_words, refused_text}
use Rattle.device.specs.declared.Device.{Device}
use Rattle.device.specs.declared.Part.{Part}
use Rattle.device.specs.Parts.{length_of}
use Rattle.model_types.specs.declared.Pins.{Pins}
use Rattle.model_states.specs.States.{fresh_state}
use Rattle.loader_from_file.specs.Loads.{LoadLeft, load_left}
use Rattle.loader.specs.declared.Work.TheVariants.{Verify}
use Rattle.loader_run.specs.declared.Job.{Job}
use Rattle.loader_run.specs.Runs.{job_of}

-- a word that is one digit, and what it counts: 255 where it is none, which no device, block or mode has
unfoldable pub is_numeral : List ℕ → Bool
is_numeral word = eqb (length word) 1 && is_digit (get_or word 0 0)

-- .. what such a word counts
unfoldable pub numeral_of : List ℕ → ℕ
numeral_of word = if is_numeral word then digit_of (get_or word 0 0) else 255

-- a wrong call: other than eight words with the program's own and `verify`, a letter of another length, a mode that is neither 0 nor 1
unfoldable pub call_wrong : ℕ → List ℕ → ℕ → Bool
call_wrong count letter mode = (not (eqb count 8) || not (eqb (length letter) 1)) || ltb 1 mode

-- what a refusal means: a device, an image, a block, a file
unfoldable pub verify_words : ℕ → List ℕ
verify_words n =
    if eqb n 1 then bytes "there is no such device, or it has no word mode\n"
    else if eqb n 2 then bytes "the image is not as long as the part\n"
    else if eqb n 10 then bytes "there is no such block\n"
    else if eqb n 30 then bytes "the file's length is wrong, or it is longer than the block\n"
    else file_words n

-- a refusal: its number and its words
abbrev pub refused_line : ℕ → List ℕ
refused_line n = (refused_text n ++ bytes ": ") ++ verify_words n

-- the byte address that differs, in five hexadecimal digits
abbrev pub address_text : ℕ → List ℕ
address_text address = spelled 16 5 address []

-- the line that names the first byte that differs
abbrev pub differs_text : ℕ → List ℕ
differs_text address = (bytes "differs at " ++ address_text address) ++ bytes "\n"

-- the line of an end: 0 the block holds the file, 25 it differs, else refused
unfoldable pub end_text : ℕ → ℕ → List ℕ
end_text end address =
    if eqb end 0 then bytes "the block holds the file\n"
    else if eqb end 25 then differs_text address
    else refused_line end

-- a part by its number and its mode, 1 for words; a device with it; RP# high, WP# and VPP low
abbrev pub part_of : ℕ → ℕ → Part
part_of number mode = record { number = number; word = eqb mode 1 }

-- a device with that part; its times do not matter to a verify
abbrev pub device_of : Part → Device
device_of part = record { part = part; program = 1; erase = 1; suspend = 1 }

-- RP# high, WP# and VPP low
abbrev pub reading : Pins
reading = record { rp = 1; wp = 0; vpp = 0 }

-- the bytes of a flash block, as many as the rooms lent have: those of byte mode, which are the same in either
abbrev pub narrowed : Part → Part
narrowed part = record { number = part.number; word = false }

-- .. the bytes of block k of a part, at most what the rooms have
abbrev pub bytes_of : Part → ℕ → List ℕ → List ℕ → ℕ
bytes_of part k w sc = min (length_of (narrowed part) k) (min (length w) (length sc))

-- what is verified: block k of a fresh part, at the levels of a reading
abbrev pub verify_job : Part → ℕ → Job
verify_job part k = job_of Verify (device_of part) fresh_state reading k

-- the verify of block k of an image of a part that is fresh, in the front of the rooms lent
unfoldable pub verify_of : Part → ℕ → List ℕ → List ℕ → List ℕ → List ℕ → ℕ → LoadLeft
verify_of part k xs w sc f letter =
    load_left (verify_job part k) xs (take (bytes_of part k w sc) w) (take (bytes_of part k w sc) sc) f letter

-- how the program is called
abbrev pub usage : List ℕ
usage = bytes "usage: desk verify IMAGE DEVICE BLOCK FILE LETTER MODE\n"

-- what is asked by the words of a call
abbrev pub asked_part : List ℕ → List ℕ → Part
asked_part device mode = part_of (numeral_of device) (numeral_of mode)

-- the verify that a right call asks for
abbrev pub asked_left : List ℕ → List ℕ → List ℕ → List ℕ → List ℕ → List ℕ → List ℕ → List ℕ → LoadLeft
asked_left device block mode xs w sc f letter = verify_of (asked_part device mode) (numeral_of block) xs w sc f (get_or letter 0 0)

-- what a call comes to: a line, the stream that it goes to, and what is left of the image and the rooms lent
pub record Answered : Type 0 where
  pub line : List ℕ
  pub stream : ℕ
  pub image : List ℕ
  pub wanted : List ℕ
  pub scratch : List ℕ

-- a wrong call: the usage, on standard error, and nothing is touched
abbrev pub misused : List ℕ → List ℕ → List ℕ → Answered
misused xs w sc = record { line = usage; stream = 2; image = xs; wanted = w; scratch = sc }

-- a verify of n bytes: its end, on standard output
abbrev pub ended : LoadLeft → ℕ → List ℕ → List ℕ → Answered
ended left n w sc =
    record {
      line = end_text left.ran.end left.ran.address;
      stream = 1;
      image = left.bytes;
      wanted = left.wanted ++ drop n w;
      scratch = left.scratch ++ drop n sc;
    }

-- the whole: words of a call, so many with the program's own; image, device, block, file, letter, mode; and the rooms lent
unfoldable pub answered : ℕ → List ℕ → List ℕ → List ℕ → List ℕ → List ℕ → List ℕ → List ℕ → List ℕ → Answered
answered count xs device block f letter mode w sc =
    if call_wrong count letter (numeral_of mode) then misused xs w sc
    else ended (asked_left device block mode xs w sc f letter) (bytes_of (asked_part device mode) (numeral_of block) w sc) w sc

-- the same with rooms as long as the longest flash block
unfoldable pub told : ℕ → List ℕ → List ℕ → List ℕ → List ℕ → List ℕ → List ℕ → Answered
told count xs device block f letter mode =
    answered count xs device block f letter mode (replicate {A = ℕ} 131072 0) (replicate {A = ℕ} 131072 0)
