-- What is said of a load into an image of a part: the words of the call, the run itself, and its end in words.
use Rattle.std.specs.Prelude.{Bool, false, not, ◌||◌, true, List, [], ◌++◌, ℕ, ◌+◌, ◌-◌, ◌*◌, ◌/◌, min, eqb, ltb, length, get_or, take}
use Rattle.std.specs.Prelude.{drop, if◌then◌else◌}
use Rattle.text.specs.Digits.{spelled, decimal_of}
use Rattle.text.specs.Writing.{bytes, behind}
use Rattle.trace_lines.specs.Lines.{four_hex}
use Rattle.device.specs.declared.Device.{Device}
use Rattle.device.specs.declared.Part.{Part}
use Rattle.device.specs.Parts.{length_of}
use Rattle.model_types.specs.declared.Pins.{Pins}
use Rattle.model_states.specs.States.{fresh_state}
use Rattle.model_types.specs.Counts.{count_of}
use Rattle.loader_run.specs.declared.Ran.{Ran}
use Rattle.loader_from_file.specs.Loads.{LoadLeft, load_left}
use Rattle.verify_answer.specs.Answers.{numeral_of, refused_line, asked_part, bytes_of}
use Rattle.load_told.specs.declared.Said.{Said}
use Rattle.loader.specs.declared.Work.TheVariants.{Load}
use Rattle.loader_run.specs.Runs.{job_of}

-- a busy time by its word, four hexadecimal digits; 0000 is the time of no device
abbrev pub time_of : List ℕ → ℕ
time_of word = four_hex (get_or word 0 0) (get_or word 1 0) (get_or word 2 0) (get_or word 3 0)

-- a wrong call: other than ten words with the program's own and `load`, a letter of another length, a mode that is neither 0 nor 1
unfoldable pub call_wrong : ℕ → List ℕ → ℕ → Bool
call_wrong count letter mode = (not (eqb count 10) || not (eqb (length letter) 1)) || ltb 1 mode

-- how the program is called
abbrev pub usage : List ℕ
usage = bytes "usage: desk load IMAGE DEVICE BLOCK FILE LETTER MODE PROGRAM ERASE\n"

-- a part with its busy times P and E
abbrev pub device_of : Part → ℕ → ℕ → Device
device_of part program erase = record { part = part; program = program; erase = erase; suspend = 1 }

-- the levels of a load of block k: 12 V, RP# high, for the boot block at the unlock level (R-lock-1)
unfoldable pub pins_of : ℕ → Pins
pins_of k = if eqb k 0 then record { rp = 2; wp = 0; vpp = 12000 } else record { rp = 1; wp = 0; vpp = 12000 }

-- the load of block k of an image of a part that is fresh, in the front of the rooms lent
unfoldable pub load_of : Device → ℕ → List ℕ → List ℕ → List ℕ → List ℕ → ℕ → LoadLeft
load_of d k xs w sc f letter =
    load_left (job_of (Load true) d fresh_state (pins_of k) k) xs (take (bytes_of d.part k w sc) w) (take (bytes_of d.part k w sc) sc) f
    letter

-- the cycles of the erase, where one was begun
unfoldable pub erase_cost : ℕ → ℕ → ℕ
erase_cost erases time = if eqb erases 0 then 0 else 2 + time

-- the programs of a good run on n units, by its count 2n + 3 + e(2 + E) + p(2 + P); no block has more than 1,048,576 units (R-load-5)
abbrev pub programs_of : Device → ℕ → ℕ → ℕ → ℕ
programs_of d n erases count = ((count - (2 * min n 1048576 + 3)) - erase_cost erases d.erase) / (2 + d.program)

-- a number in ten digits
abbrev pub number_text : ℕ → List ℕ
number_text n = spelled 10 10 n []

-- what was programmed: bytes, or words in word mode
unfoldable pub unit_text : Bool → List ℕ
unit_text word = if word then bytes ", words programmed " else bytes ", bytes programmed "

-- the line of a good load: its cycles, the erases begun, the units programmed
abbrev pub done_text : Bool → ℕ → ℕ → ℕ → List ℕ
done_text word cycles erases programs =
    (((((bytes "cycles " ++ number_text cycles) ++ bytes ", erases begun ") ++ decimal_of erases) ++ unit_text word)
    ++ number_text programs)
    ++ bytes "\n"

-- .. of a run of block k
abbrev pub ran_text : Device → ℕ → Ran → List ℕ
ran_text d k r =
    done_text d.part.word r.count (count_of r.state.wear k)
    (programs_of d (length_of d.part k) (count_of r.state.wear k) r.count)

-- the line of a run's end: what it took, or the refusal
unfoldable pub end_text : Device → ℕ → Ran → List ℕ
end_text d k r = if eqb r.end 0 then ran_text d k r else refused_line r.end

-- what a call comes to: a line, whether the load ended well, and what is left of the image and the rooms lent
pub record Loaded : Type 0 where
  pub line : List ℕ
  pub loaded : Bool
  pub image : List ℕ
  pub wanted : List ℕ
  pub scratch : List ℕ

-- a wrong call: the usage, and nothing is touched
abbrev pub misused : List ℕ → List ℕ → List ℕ → Loaded
misused xs w sc = record { line = usage; loaded = false; image = xs; wanted = w; scratch = sc }

-- a load of block k, of n bytes: its end
abbrev pub ended : Device → ℕ → LoadLeft → ℕ → List ℕ → List ℕ → Loaded
ended d k left n w sc =
    record {
      line = end_text d k left.ran;
      loaded = eqb left.ran.end 0;
      image = left.bytes;
      wanted = left.wanted ++ drop n w;
      scratch = left.scratch ++ drop n sc;
    }

-- .. by a device, a block and a letter
abbrev pub ended_by : Device → ℕ → List ℕ → List ℕ → List ℕ → List ℕ → ℕ → Loaded
ended_by d k xs w sc f letter = ended d k (load_of d k xs w sc f letter) (bytes_of d.part k w sc) w sc

-- the device of a call
abbrev pub asked_device : List ℕ → List ℕ → List ℕ → List ℕ → Device
asked_device device mode program erase = device_of (asked_part device mode) (time_of program) (time_of erase)

-- the whole: words of a call, so many with the program's own; image, device, block, file, letter, mode, times; and the rooms lent
unfoldable pub told : ℕ → List ℕ → List ℕ → List ℕ → List ℕ → List ℕ → List ℕ → List ℕ → List ℕ → List ℕ → List ℕ → Loaded
told count xs device block f letter mode program erase w sc =
    if call_wrong count letter (numeral_of mode) then misused xs w sc
    else ended_by (asked_device device mode program erase) (numeral_of block) xs w sc f (get_or letter 0 0)

-- .. as it is given back, with the line in front of out
abbrev pub said_on : List ℕ → Loaded → Said
said_on out a = record { used = behind out 0 a.line; loaded = a.loaded }
