-- Two results that a promise of this crate allows are equal, and so is what it leaves in each thing lent.
use mathlib.Core.Path.{◌≡◌}
use mathlib.Core.List.{List}
use Prim.Native.Nat.{ℕ}
use lib.ListN.{take}
use Rattle.common.specs.Choice.{Unique}
use Rattle.common.proofs.Choice.{only}
use Rattle.model_states.specs.States.{fresh_state}
use Rattle.file_check.specs.Check.{check_of}
use Rattle.c_cycle.specs.Values.{state_out}
use Rattle.c_records.specs.declared.BlockNumbers.{BlockNumbers}
use Rattle.c_functions.specs.Geometry.{size_returned, block_returned}
use Rattle.c_cycle.specs.Answers.{cycled, array_cycled}
use Rattle.c_functions.specs.Calls.{started, run_of, array_run, scratch_run, load_of, array_load, wanted_load, scratch_load, load_started, verify_started, load_run_of, array_load_run, scratch_load_run, verify_run_of, array_verify_run, scratch_verify_run, verify_file_of, array_verify_file, wanted_verify_file, scratch_verify_file, written_of, file_left, file_read, payload_left, reading_returned, reading_read, wear_added, wear_reported}
use Rattle.c_steps.specs.Steps.{stepped_of, scratch_stepped}
use Rattle.c_readings.specs.declared.ReadingNumbers.{ReadingNumbers}
use Rattle.reading_table.specs.Table.{table_number}
use lib.IntN.{ℤ}
use Rattle.c_cycle.specs.declared.DeviceNumbers.{DeviceNumbers}
use Rattle.c_cycle.specs.declared.WearNumbers.{WearNumbers}
use Rattle.c_cycle.specs.declared.StateNumbers.{StateNumbers}
use Rattle.c_cycle.specs.declared.BusNumbers.{BusNumbers}
use Rattle.c_cycle.specs.declared.AnswerNumbers.{AnswerNumbers}
use Rattle.c_records.specs.declared.LoaderNumbers.{LoaderNumbers}
use Rattle.c_records.specs.declared.SayingNumbers.{SayingNumbers}
use Rattle.c_records.specs.declared.ResponseNumbers.{ResponseNumbers}
use Rattle.c_records.specs.declared.RanNumbers.{RanNumbers}
use Rattle.c_records.specs.declared.SizedNumbers.{SizedNumbers}
use Rattle.c_wear.specs.declared.ReportNumbers.{ReportNumbers}
use Rattle.c_wear.specs.declared.ReportedNumbers.{ReportedNumbers}

pub fresh_unique : Unique (λ (r : StateNumbers). r ≡ state_out fresh_state)
fresh_unique = only (state_out fresh_state)

pub size_unique : (n : ℕ) → Unique (λ (r : ℕ). r ≡ size_returned n)
size_unique n = only (size_returned n)

pub block_unique : (n k : ℕ) → Unique (λ (r : BlockNumbers). r ≡ block_returned n k)
block_unique n k = only (block_returned n k)

pub cycle_unique : (d : DeviceNumbers) (s : StateNumbers) (c : BusNumbers) (xs rs : List ℕ) → Unique (λ (r : AnswerNumbers). r ≡ cycled d s c xs rs)
cycle_unique d s c xs rs = only (cycled d s c xs rs)

pub cycle_array_unique : (d : DeviceNumbers) (s : StateNumbers) (c : BusNumbers) (xs rs : List ℕ) → Unique (λ (left : List ℕ). left ≡ array_cycled d s c xs rs)
cycle_array_unique d s c xs rs = only (array_cycled d s c xs rs)

pub start_unique : (part word rp wp vpp k : ℕ) (w sc : List ℕ) → Unique (λ (r : ResponseNumbers). r ≡ started part word rp wp vpp k w sc)
start_unique part word rp wp vpp k w sc = only (started part word rp wp vpp k w sc)

-- the step by value, and the step on a record that is lent: what it says, the record, scratch
pub stepped_unique : (l : LoaderNumbers) (b : ℕ) (w sc : List ℕ) → Unique (λ (r : ResponseNumbers). r ≡ stepped_of l b w sc)
stepped_unique l b w sc = only (stepped_of l b w sc)

pub stepped_scratch_unique : (l : LoaderNumbers) (b : ℕ) (w sc : List ℕ) → Unique (λ (left : List ℕ). left ≡ scratch_stepped l b w sc)
stepped_scratch_unique l b w sc = only (scratch_stepped l b w sc)

pub step_unique : (l : LoaderNumbers) (b : ℕ) (w sc : List ℕ) → Unique (λ (r : SayingNumbers). r ≡ (stepped_of l b w sc).turn)
step_unique l b w sc = only (stepped_of l b w sc).turn

pub step_record_unique : (l : LoaderNumbers) (b : ℕ) (w sc : List ℕ) → Unique (λ (left : LoaderNumbers). left ≡ (stepped_of l b w sc).loader)
step_record_unique l b w sc = only (stepped_of l b w sc).loader

pub step_scratch_unique : (l : LoaderNumbers) (b : ℕ) (w sc : List ℕ) → Unique (λ (left : List ℕ). left ≡ scratch_stepped l b w sc)
step_scratch_unique l b w sc = only (scratch_stepped l b w sc)

pub run_unique : (d : DeviceNumbers) (s : StateNumbers) (rp wp vpp k : ℕ) (xs w sc : List ℕ) → Unique (λ (r : RanNumbers). r ≡ run_of d s rp wp vpp k xs w sc)
run_unique d s rp wp vpp k xs w sc = only (run_of d s rp wp vpp k xs w sc)

pub run_array_unique : (d : DeviceNumbers) (s : StateNumbers) (rp wp vpp k : ℕ) (xs w sc : List ℕ) → Unique (λ (left : List ℕ). left ≡ array_run d s rp wp vpp k xs w sc)
run_array_unique d s rp wp vpp k xs w sc = only (array_run d s rp wp vpp k xs w sc)

pub run_scratch_unique : (d : DeviceNumbers) (s : StateNumbers) (rp wp vpp k : ℕ) (xs w sc : List ℕ) → Unique (λ (left : List ℕ). left ≡ scratch_run d s rp wp vpp k xs w sc)
run_scratch_unique d s rp wp vpp k xs w sc = only (scratch_run d s rp wp vpp k xs w sc)

pub load_unique : (d : DeviceNumbers) (s : StateNumbers) (rp wp vpp k : ℕ) (f : List ℕ) (asked : ℕ) (xs w sc : List ℕ) → Unique (λ (r : RanNumbers). r ≡ load_of d s rp wp vpp k f asked xs w sc)
load_unique d s rp wp vpp k f asked xs w sc = only (load_of d s rp wp vpp k f asked xs w sc)

pub load_array_unique : (d : DeviceNumbers) (s : StateNumbers) (rp wp vpp k : ℕ) (f : List ℕ) (asked : ℕ) (xs w sc : List ℕ)
    → Unique (λ (left : List ℕ). left ≡ array_load d s rp wp vpp k f asked xs w sc)
load_array_unique d s rp wp vpp k f asked xs w sc = only (array_load d s rp wp vpp k f asked xs w sc)

pub load_wanted_unique : (d : DeviceNumbers) (s : StateNumbers) (rp wp vpp k : ℕ) (f : List ℕ) (asked : ℕ) (xs w sc : List ℕ)
    → Unique (λ (left : List ℕ). left ≡ wanted_load d s rp wp vpp k f asked xs w sc)
load_wanted_unique d s rp wp vpp k f asked xs w sc = only (wanted_load d s rp wp vpp k f asked xs w sc)

pub load_scratch_unique : (d : DeviceNumbers) (s : StateNumbers) (rp wp vpp k : ℕ) (f : List ℕ) (asked : ℕ) (xs w sc : List ℕ)
    → Unique (λ (left : List ℕ). left ≡ scratch_load d s rp wp vpp k f asked xs w sc)
load_scratch_unique d s rp wp vpp k f asked xs w sc = only (scratch_load d s rp wp vpp k f asked xs w sc)

pub load_start_unique : (part word rp wp vpp k : ℕ) (w sc : List ℕ) → Unique (λ (r : ResponseNumbers). r ≡ load_started part word rp wp vpp k w sc)
load_start_unique part word rp wp vpp k w sc = only (load_started part word rp wp vpp k w sc)

pub verify_start_unique : (part word rp wp vpp k : ℕ) (w sc : List ℕ) → Unique (λ (r : ResponseNumbers). r ≡ verify_started part word rp wp vpp k w sc)
verify_start_unique part word rp wp vpp k w sc = only (verify_started part word rp wp vpp k w sc)

pub load_run_unique : (d : DeviceNumbers) (s : StateNumbers) (rp wp vpp k : ℕ) (xs w sc : List ℕ) → Unique (λ (r : RanNumbers). r ≡ load_run_of d s rp wp vpp k xs w sc)
load_run_unique d s rp wp vpp k xs w sc = only (load_run_of d s rp wp vpp k xs w sc)

pub load_run_array_unique : (d : DeviceNumbers) (s : StateNumbers) (rp wp vpp k : ℕ) (xs w sc : List ℕ) → Unique (λ (left : List ℕ). left ≡ array_load_run d s rp wp vpp k xs w sc)
load_run_array_unique d s rp wp vpp k xs w sc = only (array_load_run d s rp wp vpp k xs w sc)

pub load_run_scratch_unique : (d : DeviceNumbers) (s : StateNumbers) (rp wp vpp k : ℕ) (xs w sc : List ℕ) → Unique (λ (left : List ℕ). left ≡ scratch_load_run d s rp wp vpp k xs w sc)
load_run_scratch_unique d s rp wp vpp k xs w sc = only (scratch_load_run d s rp wp vpp k xs w sc)

pub verify_run_unique : (d : DeviceNumbers) (s : StateNumbers) (rp wp vpp k : ℕ) (xs w sc : List ℕ) → Unique (λ (r : RanNumbers). r ≡ verify_run_of d s rp wp vpp k xs w sc)
verify_run_unique d s rp wp vpp k xs w sc = only (verify_run_of d s rp wp vpp k xs w sc)

pub verify_run_array_unique : (d : DeviceNumbers) (s : StateNumbers) (rp wp vpp k : ℕ) (xs w sc : List ℕ) → Unique (λ (left : List ℕ). left ≡ array_verify_run d s rp wp vpp k xs w sc)
verify_run_array_unique d s rp wp vpp k xs w sc = only (array_verify_run d s rp wp vpp k xs w sc)

pub verify_run_scratch_unique : (d : DeviceNumbers) (s : StateNumbers) (rp wp vpp k : ℕ) (xs w sc : List ℕ) → Unique (λ (left : List ℕ). left ≡ scratch_verify_run d s rp wp vpp k xs w sc)
verify_run_scratch_unique d s rp wp vpp k xs w sc = only (scratch_verify_run d s rp wp vpp k xs w sc)

pub verify_file_unique : (d : DeviceNumbers) (s : StateNumbers) (rp wp vpp k : ℕ) (f : List ℕ) (asked : ℕ) (xs w sc : List ℕ) → Unique (λ (r : RanNumbers). r ≡ verify_file_of d s rp wp vpp k f asked xs w sc)
verify_file_unique d s rp wp vpp k f asked xs w sc = only (verify_file_of d s rp wp vpp k f asked xs w sc)

pub verify_file_array_unique : (d : DeviceNumbers) (s : StateNumbers) (rp wp vpp k : ℕ) (f : List ℕ) (asked : ℕ) (xs w sc : List ℕ) → Unique (λ (left : List ℕ). left ≡ array_verify_file d s rp wp vpp k f asked xs w sc)
verify_file_array_unique d s rp wp vpp k f asked xs w sc = only (array_verify_file d s rp wp vpp k f asked xs w sc)

pub verify_file_wanted_unique : (d : DeviceNumbers) (s : StateNumbers) (rp wp vpp k : ℕ) (f : List ℕ) (asked : ℕ) (xs w sc : List ℕ) → Unique (λ (left : List ℕ). left ≡ wanted_verify_file d s rp wp vpp k f asked xs w sc)
verify_file_wanted_unique d s rp wp vpp k f asked xs w sc = only (wanted_verify_file d s rp wp vpp k f asked xs w sc)

pub verify_file_scratch_unique : (d : DeviceNumbers) (s : StateNumbers) (rp wp vpp k : ℕ) (f : List ℕ) (asked : ℕ) (xs w sc : List ℕ) → Unique (λ (left : List ℕ). left ≡ scratch_verify_file d s rp wp vpp k f asked xs w sc)
verify_file_scratch_unique d s rp wp vpp k f asked xs w sc = only (scratch_verify_file d s rp wp vpp k f asked xs w sc)

pub file_write_unique : (letter : ℕ) (p out : List ℕ) → Unique (λ (r : SizedNumbers). r ≡ written_of letter p out)
file_write_unique letter p out = only (written_of letter p out)

pub file_write_file_unique : (letter : ℕ) (p out : List ℕ) → Unique (λ (left : List ℕ). left ≡ file_left letter p out)
file_write_file_unique letter p out = only (file_left letter p out)

pub file_read_unique : (f : List ℕ) (asked : ℕ) (out : List ℕ) → Unique (λ (r : SizedNumbers). r ≡ file_read f asked out)
file_read_unique f asked out = only (file_read f asked out)

pub file_read_payload_unique : (f : List ℕ) (asked : ℕ) (out : List ℕ) → Unique (λ (left : List ℕ). left ≡ payload_left f asked out)
file_read_payload_unique f asked out = only (payload_left f asked out)

pub block_check_unique : (block : List ℕ) → Unique (λ (r : ℕ). r ≡ check_of (take 510 block))
block_check_unique block = only (check_of (take 510 block))

pub table_judge_unique : (p : List ℕ) → Unique (λ (r : ℕ). r ≡ table_number p)
table_judge_unique p = only (table_number p)

pub table_reading_unique : (p : List ℕ) (x : ℤ) → Unique (λ (r : ReadingNumbers). r ≡ reading_returned p x)
table_reading_unique p x = only (reading_returned p x)

pub file_reading_unique : (f : List ℕ) (asked : ℕ) (room : List ℕ) (x : ℤ) → Unique (λ (r : ReadingNumbers). r ≡ reading_read f asked room x)
file_reading_unique f asked room x = only (reading_read f asked room x)

pub file_reading_room_unique : (f : List ℕ) (asked : ℕ) (room : List ℕ) → Unique (λ (left : List ℕ). left ≡ payload_left f asked room)
file_reading_room_unique f asked room = only (payload_left f asked room)

pub wear_add_unique : (part : ℕ) (r : ReportNumbers) (from : ℕ) (w : WearNumbers) → Unique (λ (q : ReportedNumbers). q ≡ wear_added part r from w)
wear_add_unique part r from w = only (wear_added part r from w)

pub wear_report_unique : (part : ℕ) (parts counts : List ℕ) → Unique (λ (q : ReportedNumbers). q ≡ wear_reported part parts counts)
wear_report_unique part parts counts = only (wear_reported part parts counts)
