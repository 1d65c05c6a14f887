-- What each C function gives: the typed function's answer as numbers.
use Rattle.std.specs.Prelude.{Bool, true, false, List, ℕ, length, ℤ}
use Rattle.units.specs.Units.{units, lent}
use Rattle.loader.specs.declared.Response.{Response}
use Rattle.loader_steps.specs.Front.{start_response}
use Rattle.loader_run.specs.declared.Ran.{Ran}
use Rattle.file_codec.specs.File.{limit, in_room, left_in, reader_of, writer_of}
use Rattle.c_cycle.specs.Values.{state_out, part_in, device_in, pins_in, wear_in, cycle_in}
use Rattle.c_records.specs.Records.{loader_out, saying_out, sized_by, ran_out, job_in}
use Rattle.c_cycle.specs.declared.DeviceNumbers.{DeviceNumbers}
use Rattle.c_cycle.specs.declared.WearNumbers.{WearNumbers}
use Rattle.c_cycle.specs.declared.StateNumbers.{StateNumbers}
use Rattle.c_cycle.specs.declared.BusNumbers.{BusNumbers}
use Rattle.c_cycle.specs.declared.AnswerNumbers.{AnswerNumbers}
use Rattle.c_records.specs.declared.ResponseNumbers.{ResponseNumbers}
use Rattle.c_records.specs.declared.RanNumbers.{RanNumbers}
use Rattle.c_records.specs.declared.SizedNumbers.{SizedNumbers}
use Rattle.c_readings.specs.declared.ReadingNumbers.{ReadingNumbers}
use Rattle.c_readings.specs.Readings.{answer_numbers}
use Rattle.reading.specs.Readings.{reading_answer, answer_as}
use Rattle.wear.specs.Refusals.{added_to, reported_of}
use Rattle.c_wear.specs.declared.ReportNumbers.{ReportNumbers}
use Rattle.c_wear.specs.declared.ReportedNumbers.{ReportedNumbers}
use Rattle.c_wear.specs.Reports.{report_in, reported_out}
use Rattle.loader.specs.declared.Work.{Work}
use Rattle.loader.specs.declared.Work.TheVariants.{Load, Verify}
use Rattle.loader_run.specs.Runs.{lent_run}
use Rattle.loader_from_file.specs.Loads.{load_left}

-- whether the device that such numbers name is in word mode
abbrev pub word_mode_of : DeviceNumbers → Bool
word_mode_of d = (device_in d).part.word

-- what a start says, and the record
abbrev pub response_out : Response → ResponseNumbers
response_out g = record { turn = saying_out g.saying; loader = loader_out g.loader }

-- a loader's start, of a load with or without the verify after it, or of a verify alone
unfoldable pub started_at : Work → ℕ → ℕ → ℕ → ℕ → ℕ → ℕ → List ℕ → List ℕ → ResponseNumbers
started_at work part word rp wp vpp k w sc =
    response_out
    (start_response work (part_in part word) (pins_in rp wp vpp) k (lent (part_in part word).word w) (lent (part_in part word).word sc))

-- of a load with the verify after it, of a load alone, of a verify alone
abbrev pub started : ℕ → ℕ → ℕ → ℕ → ℕ → ℕ → List ℕ → List ℕ → ResponseNumbers
started part word rp wp vpp k w sc = started_at (Load true) part word rp wp vpp k w sc

-- .. of a load alone
abbrev pub load_started : ℕ → ℕ → ℕ → ℕ → ℕ → ℕ → List ℕ → List ℕ → ResponseNumbers
load_started part word rp wp vpp k w sc = started_at (Load false) part word rp wp vpp k w sc

-- .. of a verify alone
abbrev pub verify_started : ℕ → ℕ → ℕ → ℕ → ℕ → ℕ → List ℕ → List ℕ → ResponseNumbers
verify_started part word rp wp vpp k w sc = started_at Verify part word rp wp vpp k w sc

-- what a run or a load returns, as numbers
abbrev pub ran_numbers : Ran → RanNumbers
ran_numbers r = record { count = r.count; end = r.end; address = r.address; state = state_out r.state }

-- a run of a load, with or without the verify after it, or of a verify alone: what is returned, the array, and scratch
unfoldable pub run_at_of : Work → DeviceNumbers → StateNumbers → ℕ → ℕ → ℕ → ℕ → List ℕ → List ℕ → List ℕ → RanNumbers
run_at_of work d s rp wp vpp k xs w sc = ran_out s (lent_run (job_in work d s rp wp vpp k) xs w sc).ran

-- .. what it leaves in the array
unfoldable pub array_run_at : Work → DeviceNumbers → StateNumbers → ℕ → ℕ → ℕ → ℕ → List ℕ → List ℕ → List ℕ → List ℕ
array_run_at work d s rp wp vpp k xs w sc = (lent_run (job_in work d s rp wp vpp k) xs w sc).bytes

-- .. what it leaves in scratch
unfoldable pub scratch_run_at : Work → DeviceNumbers → StateNumbers → ℕ → ℕ → ℕ → ℕ → List ℕ → List ℕ → List ℕ → List ℕ
scratch_run_at work d s rp wp vpp k xs w sc = (lent_run (job_in work d s rp wp vpp k) xs w sc).scratch

-- .. of a run
abbrev pub run_of : DeviceNumbers → StateNumbers → ℕ → ℕ → ℕ → ℕ → List ℕ → List ℕ → List ℕ → RanNumbers
run_of d s rp wp vpp k xs w sc = run_at_of (Load true) d s rp wp vpp k xs w sc

-- .. what a run leaves in the array
abbrev pub array_run : DeviceNumbers → StateNumbers → ℕ → ℕ → ℕ → ℕ → List ℕ → List ℕ → List ℕ → List ℕ
array_run d s rp wp vpp k xs w sc = array_run_at (Load true) d s rp wp vpp k xs w sc

-- .. what a run leaves in scratch
abbrev pub scratch_run : DeviceNumbers → StateNumbers → ℕ → ℕ → ℕ → ℕ → List ℕ → List ℕ → List ℕ → List ℕ
scratch_run d s rp wp vpp k xs w sc = scratch_run_at (Load true) d s rp wp vpp k xs w sc

-- .. of a load alone
abbrev pub load_run_of : DeviceNumbers → StateNumbers → ℕ → ℕ → ℕ → ℕ → List ℕ → List ℕ → List ℕ → RanNumbers
load_run_of d s rp wp vpp k xs w sc = run_at_of (Load false) d s rp wp vpp k xs w sc

-- .. what a load alone leaves in the array
abbrev pub array_load_run : DeviceNumbers → StateNumbers → ℕ → ℕ → ℕ → ℕ → List ℕ → List ℕ → List ℕ → List ℕ
array_load_run d s rp wp vpp k xs w sc = array_run_at (Load false) d s rp wp vpp k xs w sc

-- .. what a load alone leaves in scratch
abbrev pub scratch_load_run : DeviceNumbers → StateNumbers → ℕ → ℕ → ℕ → ℕ → List ℕ → List ℕ → List ℕ → List ℕ
scratch_load_run d s rp wp vpp k xs w sc = scratch_run_at (Load false) d s rp wp vpp k xs w sc

-- .. of a verify alone
abbrev pub verify_run_of : DeviceNumbers → StateNumbers → ℕ → ℕ → ℕ → ℕ → List ℕ → List ℕ → List ℕ → RanNumbers
verify_run_of d s rp wp vpp k xs w sc = run_at_of Verify d s rp wp vpp k xs w sc

-- .. what a verify alone leaves in the array
abbrev pub array_verify_run : DeviceNumbers → StateNumbers → ℕ → ℕ → ℕ → ℕ → List ℕ → List ℕ → List ℕ → List ℕ
array_verify_run d s rp wp vpp k xs w sc = array_run_at Verify d s rp wp vpp k xs w sc

-- .. what a verify alone leaves in scratch
abbrev pub scratch_verify_run : DeviceNumbers → StateNumbers → ℕ → ℕ → ℕ → ℕ → List ℕ → List ℕ → List ℕ → List ℕ
scratch_verify_run d s rp wp vpp k xs w sc = scratch_run_at Verify d s rp wp vpp k xs w sc

-- with a file: what is returned, the array, wanted, and scratch
unfoldable pub file_at_of : Work → DeviceNumbers → StateNumbers → ℕ → ℕ → ℕ → ℕ → List ℕ → ℕ → List ℕ → List ℕ → List ℕ → RanNumbers
file_at_of work d s rp wp vpp k f asked xs w sc = ran_out s (load_left (job_in work d s rp wp vpp k) xs w sc f asked).ran

-- .. what it leaves in the array
unfoldable pub array_file_at : Work → DeviceNumbers → StateNumbers → ℕ → ℕ → ℕ → ℕ → List ℕ → ℕ → List ℕ → List ℕ → List ℕ → List ℕ
array_file_at work d s rp wp vpp k f asked xs w sc = (load_left (job_in work d s rp wp vpp k) xs w sc f asked).bytes

-- .. what it leaves in wanted
unfoldable pub wanted_file_at : Work → DeviceNumbers → StateNumbers → ℕ → ℕ → ℕ → ℕ → List ℕ → ℕ → List ℕ → List ℕ → List ℕ → List ℕ
wanted_file_at work d s rp wp vpp k f asked xs w sc = (load_left (job_in work d s rp wp vpp k) xs w sc f asked).wanted

-- .. what it leaves in scratch
unfoldable pub scratch_file_at : Work → DeviceNumbers → StateNumbers → ℕ → ℕ → ℕ → ℕ → List ℕ → ℕ → List ℕ → List ℕ → List ℕ → List ℕ
scratch_file_at work d s rp wp vpp k f asked xs w sc = (load_left (job_in work d s rp wp vpp k) xs w sc f asked).scratch

-- .. of a load from a file, with the verify after it
abbrev pub load_of : DeviceNumbers → StateNumbers → ℕ → ℕ → ℕ → ℕ → List ℕ → ℕ → List ℕ → List ℕ → List ℕ → RanNumbers
load_of d s rp wp vpp k f asked xs w sc = file_at_of (Load true) d s rp wp vpp k f asked xs w sc

-- .. what such a load leaves in the array
abbrev pub array_load : DeviceNumbers → StateNumbers → ℕ → ℕ → ℕ → ℕ → List ℕ → ℕ → List ℕ → List ℕ → List ℕ → List ℕ
array_load d s rp wp vpp k f asked xs w sc = array_file_at (Load true) d s rp wp vpp k f asked xs w sc

-- .. what such a load leaves in wanted
abbrev pub wanted_load : DeviceNumbers → StateNumbers → ℕ → ℕ → ℕ → ℕ → List ℕ → ℕ → List ℕ → List ℕ → List ℕ → List ℕ
wanted_load d s rp wp vpp k f asked xs w sc = wanted_file_at (Load true) d s rp wp vpp k f asked xs w sc

-- .. what such a load leaves in scratch
abbrev pub scratch_load : DeviceNumbers → StateNumbers → ℕ → ℕ → ℕ → ℕ → List ℕ → ℕ → List ℕ → List ℕ → List ℕ → List ℕ
scratch_load d s rp wp vpp k f asked xs w sc = scratch_file_at (Load true) d s rp wp vpp k f asked xs w sc

-- .. of a verify from a file
abbrev pub verify_file_of : DeviceNumbers → StateNumbers → ℕ → ℕ → ℕ → ℕ → List ℕ → ℕ → List ℕ → List ℕ → List ℕ → RanNumbers
verify_file_of d s rp wp vpp k f asked xs w sc = file_at_of Verify d s rp wp vpp k f asked xs w sc

-- .. what such a verify leaves in the array
abbrev pub array_verify_file : DeviceNumbers → StateNumbers → ℕ → ℕ → ℕ → ℕ → List ℕ → ℕ → List ℕ → List ℕ → List ℕ → List ℕ
array_verify_file d s rp wp vpp k f asked xs w sc = array_file_at Verify d s rp wp vpp k f asked xs w sc

-- .. what such a verify leaves in wanted
abbrev pub wanted_verify_file : DeviceNumbers → StateNumbers → ℕ → ℕ → ℕ → ℕ → List ℕ → ℕ → List ℕ → List ℕ → List ℕ → List ℕ
wanted_verify_file d s rp wp vpp k f asked xs w sc = wanted_file_at Verify d s rp wp vpp k f asked xs w sc

-- .. what such a verify leaves in scratch
abbrev pub scratch_verify_file : DeviceNumbers → StateNumbers → ℕ → ℕ → ℕ → ℕ → List ℕ → ℕ → List ℕ → List ℕ → List ℕ → List ℕ
scratch_verify_file d s rp wp vpp k f asked xs w sc = scratch_file_at Verify d s rp wp vpp k f asked xs w sc

-- the writer and the reader: a number and a length, and the buffer that was lent
unfoldable pub written_of : ℕ → List ℕ → List ℕ → SizedNumbers
written_of letter p out = sized_by (in_room (length out) (writer_of limit letter p))

-- what the writer leaves in the buffer
unfoldable pub file_left : ℕ → List ℕ → List ℕ → List ℕ
file_left letter p out = left_in out (in_room (length out) (writer_of limit letter p))

-- what the reader answers: a number and a length
unfoldable pub file_read : List ℕ → ℕ → List ℕ → SizedNumbers
file_read f asked out = sized_by (in_room (length out) (reader_of limit f asked))

-- what the reader leaves in the buffer
unfoldable pub payload_left : List ℕ → ℕ → List ℕ → List ℕ
payload_left f asked out = left_in out (in_room (length out) (reader_of limit f asked))

-- a reading: by a payload, and straight from a file
unfoldable pub reading_returned : List ℕ → ℤ → ReadingNumbers
reading_returned p x = answer_numbers (reading_answer p x)

-- a reading straight from a file, under the letter asked for
unfoldable pub reading_read : List ℕ → ℕ → List ℕ → ℤ → ReadingNumbers
reading_read f asked room x = answer_numbers (answer_as x (in_room (length room) (reader_of limit f asked)))

-- a report on wear: with one trace more, and on many traces
unfoldable pub wear_added : ℕ → ReportNumbers → ℕ → WearNumbers → ReportedNumbers
wear_added part r from w = reported_out (added_to part (report_in r) from (wear_in w))

-- a report on many traces, from the numbers of their parts and their counts
unfoldable pub wear_reported : ℕ → List ℕ → List ℕ → ReportedNumbers
wear_reported part parts counts = reported_out (reported_of part parts counts)
