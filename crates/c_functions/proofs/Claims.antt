-- What is claimed of the C functions, in one place. What is said of a work holds of a run, a load alone and a verify alone, and of a load
-- and a verify from a file.
use mathlib.Core.Path.{◌≡◌}
use mathlib.Core.Bool.{Bool, true, false}
use mathlib.Core.List.{List}
use mathlib.Core.Logic.{◌↔◌}
use Prim.Native.Nat.{ℕ}
use lib.ListN.{length}
use lib.Dec.{ltb}
use Rattle.common.specs.Numbers.{Foremost, NoRow}
use Rattle.device.specs.declared.Device.{Device}
use Rattle.device.specs.Parts.{unknown_part, unknown_device, size_of, length_of, start_of}
use Rattle.model_types.specs.declared.Cycle.{Cycle}
use Rattle.model_types.specs.declared.Wear.{Wear}
use Rattle.model_types.specs.declared.State.{State}
use Rattle.model_states.specs.States.{improper}
use Rattle.units.specs.Units.{units, lent, bytes_in}
use Rattle.units.specs.Address.{byte_of}
use Rattle.model.specs.Arrays.{answer_of, bytes_after}
use Rattle.loader.specs.declared.Loader.{Loader}
use Rattle.loader.specs.declared.Saying.TheVariants.{Refused}
use Rattle.loader_steps.specs.Front.{no_block, step_response, scratch_left}
use Rattle.loader_run.specs.Runs.{lent_number, lent_run}
use Rattle.loader_from_file.specs.Loads.{load_number, load_left}
use Rattle.wear.specs.declared.Report.{Report}
use Rattle.wear.specs.Reports.{no_report}
use Rattle.wear.specs.Refusals.{report_rows, add_rows, added_to}
use Rattle.c_cycle.specs.Values.{device_in, device_out, no_state, wear_out, state_in, state_out, cycle_out}
use Rattle.c_records.specs.Records.{no_record, loader_in, loader_out, saying_out, job_in}
use Rattle.c_cycle.specs.Answers.{seen_out, value_out, cycled, array_cycled}
use Rattle.c_functions.specs.Calls.{started_at, run_at_of, array_run_at, scratch_run_at, file_at_of, array_file_at, wanted_file_at, scratch_file_at, written_of, file_left, file_read, payload_left, ran_numbers, wear_added, wear_reported}
use Rattle.c_steps.specs.Steps.{stepped_of, scratch_stepped}
use Rattle.c_functions.specs.Geometry.{size_returned, block_returned}
use Rattle.c_cycle.specs.declared.DeviceNumbers.{DeviceNumbers}
use Rattle.c_cycle.specs.declared.WearNumbers.{WearNumbers}
use Rattle.c_cycle.specs.declared.StateNumbers.{StateNumbers}
use Rattle.c_cycle.specs.declared.BusNumbers.{BusNumbers}
use Rattle.c_records.specs.declared.LoaderNumbers.{LoaderNumbers}
use Rattle.c_wear.specs.declared.ReportNumbers.{ReportNumbers}
use Rattle.c_wear.specs.Reports.{report_out, reported_out}
use Rattle.loader_run.specs.declared.Job.{Job}
use Rattle.loader.specs.declared.Work.{Work}
use Rattle.c_functions.proofs.Returned as returned
use Rattle.c_functions.proofs.Wears as wears

-- Numbers that stand for no state, no kind or no record are refused in their place: 3 after 1 and 2, 4 after 1 to 3, 3 after 1.
pub cycle_no_state : (d : DeviceNumbers) (s : StateNumbers) (c : BusNumbers) (xs rs : List ℕ) → unknown_device (device_in d) ≡ false → length xs ≡ bytes_in (device_in d).part.word (size_of (device_in d).part)
    → no_state s ≡ true → cycled d s c xs rs ≡ record { seen = 2; value = 3; state = s }
cycle_no_state = returned.cycle_no_state

pub cycle_no_kind : (d : DeviceNumbers) (s : StateNumbers) (c : BusNumbers) (xs rs : List ℕ) → unknown_device (device_in d) ≡ false → length xs ≡ bytes_in (device_in d).part.word (size_of (device_in d).part)
    → improper (device_in d) (state_in s) ≡ false → ltb 2 c.kind ≡ true → cycled d s c xs rs ≡ record { seen = 2; value = 4; state = s }
cycle_no_kind = returned.cycle_no_kind

pub step_no_record : (l : LoaderNumbers) (b : ℕ) (w sc : List ℕ) → unknown_part (loader_in l).part ≡ false → no_record l ≡ true
    → ((stepped_of l b w sc).turn ≡ saying_out (Refused 3)) × ((stepped_of l b w sc).loader ≡ l)
step_no_record = returned.step_no_record

-- A mode that is neither 0 nor 1 is no device: refused 1, before all else.
pub cycle_no_mode : (d : DeviceNumbers) (s : StateNumbers) (c : BusNumbers) (xs rs : List ℕ) → ltb 1 d.word ≡ true → cycled d s c xs rs ≡ record { seen = 2; value = 1; state = s }
cycle_no_mode = returned.cycle_no_mode

pub start_no_mode : (work : Work) (part word rp wp vpp k : ℕ) (w sc : List ℕ) → ltb 1 word ≡ true → (started_at work part word rp wp vpp k w sc).turn ≡ saying_out (Refused 1)
start_no_mode = returned.start_no_mode

pub step_no_mode : (l : LoaderNumbers) (b : ℕ) (w sc : List ℕ) → ltb 1 l.word ≡ true → ((stepped_of l b w sc).turn ≡ saying_out (Refused 1)) × ((stepped_of l b w sc).loader ≡ l)
step_no_mode = returned.step_no_mode

pub run_no_mode : (work : Work) (d : DeviceNumbers) (s : StateNumbers) (rp wp vpp k : ℕ) (xs w sc : List ℕ) → ltb 1 d.word ≡ true
    → run_at_of work d s rp wp vpp k xs w sc ≡ record { count = 0; end = 1; address = 0; state = s }
run_no_mode = returned.run_no_mode

pub load_no_mode : (work : Work) (d : DeviceNumbers) (s : StateNumbers) (rp wp vpp k : ℕ) (xs w sc : List ℕ) → (f : List ℕ) (asked : ℕ) → ltb 1 d.word ≡ true
    → file_at_of work d s rp wp vpp k f asked xs w sc ≡ record { count = 0; end = 1; address = 0; state = s }
load_no_mode = returned.load_no_mode

-- The bytes and byte addresses that tb_size and tb_block give are those of the part in either mode.
pub size_either : (n : ℕ) (w : Bool) → unknown_part (record { number = n; word = w }) ≡ false → size_returned n ≡ bytes_in w (size_of (record { number = n; word = w }))
size_either = returned.size_either

pub block_either : (n k : ℕ) (w : Bool) → unknown_part (record { number = n; word = w }) ≡ false → no_block (record { number = n; word = w }) k ≡ false
    → block_returned n k ≡ record { first = byte_of w (start_of (record { number = n; word = w }) k); length = bytes_in w (length_of (record { number = n; word = w }) k) }
block_either = returned.block_either

pub run_no_state : (work : Work) (d : DeviceNumbers) (s : StateNumbers) (rp wp vpp k : ℕ) (xs w sc : List ℕ) → unknown_device (device_in d) ≡ false → length xs ≡ bytes_in (device_in d).part.word (size_of (device_in d).part)
    → no_state s ≡ true → run_at_of work d s rp wp vpp k xs w sc ≡ record { count = 0; end = 3; address = 0; state = s }
run_no_state = returned.run_no_state

pub load_no_state : (work : Work) (d : DeviceNumbers) (s : StateNumbers) (rp wp vpp k : ℕ) (xs w sc : List ℕ) → (f : List ℕ) (asked : ℕ) → unknown_device (device_in d) ≡ false
    → length xs ≡ bytes_in (device_in d).part.word (size_of (device_in d).part) → no_state s ≡ true → file_at_of work d s rp wp vpp k f asked xs w sc ≡ record { count = 0; end = 3; address = 0; state = s }
load_no_state = returned.load_no_state

-- A refusal gives back the very numbers that came in, whatever they stand for, and leaves all that was lent.
pub cycle_refused : (d : DeviceNumbers) (s : StateNumbers) (c : BusNumbers) (xs rs : List ℕ) → (cycled d s c xs rs).seen ≡ 2
    → ((cycled d s c xs rs).state ≡ s) × (array_cycled d s c xs rs ≡ xs)
cycle_refused = returned.cycle_refused

pub step_refused : (l : LoaderNumbers) (b : ℕ) (w sc : List ℕ) → (stepped_of l b w sc).turn.turn ≡ 2
    → ((stepped_of l b w sc).loader ≡ l) × (scratch_stepped l b w sc ≡ sc)
step_refused = returned.step_refused

pub run_refused : (work : Work) (d : DeviceNumbers) (s : StateNumbers) (rp wp vpp k : ℕ) (xs w sc : List ℕ) (m : ℕ) → (m ≡ 0 → ⊥)
    → lent_number (job_in work d s rp wp vpp k) (length xs) (length w) (length sc) ≡ m
    → (run_at_of work d s rp wp vpp k xs w sc ≡ record { count = 0; end = m; address = 0; state = s }) × (array_run_at work d s rp wp vpp k xs w sc ≡ xs) × (scratch_run_at work d s rp wp vpp k xs w sc ≡ sc)
run_refused = returned.run_refused

pub load_refused : (work : Work) (d : DeviceNumbers) (s : StateNumbers) (rp wp vpp k : ℕ) (xs w sc : List ℕ) → (f : List ℕ) (asked m : ℕ) → (m ≡ 0 → ⊥)
    → load_number (job_in work d s rp wp vpp k) (length xs) (length w) (length sc) f asked ≡ m
    → (file_at_of work d s rp wp vpp k f asked xs w sc ≡ record { count = 0; end = m; address = 0; state = s }) × (array_file_at work d s rp wp vpp k f asked xs w sc ≡ xs)
    × (wanted_file_at work d s rp wp vpp k f asked xs w sc ≡ w) × (scratch_file_at work d s rp wp vpp k f asked xs w sc ≡ sc)
load_refused = returned.load_refused

pub write_refused : (letter : ℕ) (p out : List ℕ) → ((written_of letter p out).number ≡ 0 → ⊥) → ((written_of letter p out).length ≡ 0) × (file_left letter p out ≡ out)
write_refused = returned.write_refused

pub read_refused : (f : List ℕ) (asked : ℕ) (out : List ℕ) → ((file_read f asked out).number ≡ 0 → ⊥) → ((file_read f asked out).length ≡ 0) × (payload_left f asked out ≡ out)
read_refused = returned.read_refused

-- A trace and a report are refused exactly by the first row of their tables that holds.
pub wear_add_refused_exactly : (part : ℕ) (r : ReportNumbers) (from : ℕ) (w : WearNumbers) (m : ℕ) → (m ≡ 0 → ⊥)
    → ((wear_added part r from w).number ≡ m) ↔ Foremost (add_rows part from r.traces) m
wear_add_refused_exactly = wears.wear_add_refused_exactly

pub wear_add_accepted_exactly : (part : ℕ) (r : ReportNumbers) (from : ℕ) (w : WearNumbers)
    → ((wear_added part r from w).number ≡ 0) ↔ NoRow (add_rows part from r.traces)
wear_add_accepted_exactly = wears.wear_add_accepted_exactly

pub wear_report_refused_exactly : (part : ℕ) (parts counts : List ℕ) (m : ℕ) → (m ≡ 0 → ⊥)
    → ((wear_reported part parts counts).number ≡ m) ↔ Foremost (report_rows part parts (length counts)) m
wear_report_refused_exactly = wears.wear_report_refused_exactly

pub wear_report_accepted_exactly : (part : ℕ) (parts counts : List ℕ)
    → ((wear_reported part parts counts).number ≡ 0) ↔ NoRow (report_rows part parts (length counts))
wear_report_accepted_exactly = wears.wear_report_accepted_exactly

-- A trace that is refused leaves the report that came; a report that is refused is that on no traces.
pub wear_add_refused : (part : ℕ) (r : ReportNumbers) (from : ℕ) (w : WearNumbers)
    → ((wear_added part r from w).number ≡ 0 → ⊥) → (wear_added part r from w).report ≡ r
wear_add_refused = wears.wear_add_refused

pub wear_report_refused : (part : ℕ) (parts counts : List ℕ)
    → ((wear_reported part parts counts).number ≡ 0 → ⊥) → (wear_reported part parts counts).report ≡ report_out no_report
wear_report_refused = wears.wear_report_refused

-- On the numbers of typed values each C function is the typed function: its answer as numbers, by the units of what was lent, and what it
-- leaves in the slices.
pub cycle_typed : (d : Device) (s : State) (c : Cycle) (xs rs : List ℕ)
    → (cycled (device_out d) (state_out s) (cycle_out c) xs rs
    ≡ record {
      seen = seen_out (answer_of d s c (lent d.part.word xs) (units d.part.word rs)).seen;
      value = value_out (answer_of d s c (lent d.part.word xs) (units d.part.word rs)).seen;
      state = state_out (answer_of d s c (lent d.part.word xs) (units d.part.word rs)).state;
    })
    × (array_cycled (device_out d) (state_out s) (cycle_out c) xs rs ≡ bytes_after d s c xs rs)
cycle_typed = returned.cycle_typed

pub step_typed : (l : Loader) (b : ℕ) (w sc : List ℕ)
    → (stepped_of (loader_out l) b w sc
    ≡ record { turn = saying_out (step_response l b (lent l.part.word w) (lent l.part.word sc)).saying; loader = loader_out (step_response l b (lent l.part.word w) (lent l.part.word sc)).loader })
    × (scratch_stepped (loader_out l) b w sc ≡ scratch_left l b w sc)
step_typed = returned.step_typed

pub run_typed : (j : Job) (xs w sc : List ℕ)
    → (run_at_of j.work (device_out j.device) (state_out j.state) j.pins.rp j.pins.wp j.pins.vpp j.block xs w sc ≡ ran_numbers (lent_run j xs w sc).ran)
    × (array_run_at j.work (device_out j.device) (state_out j.state) j.pins.rp j.pins.wp j.pins.vpp j.block xs w sc ≡ (lent_run j xs w sc).bytes)
    × (scratch_run_at j.work (device_out j.device) (state_out j.state) j.pins.rp j.pins.wp j.pins.vpp j.block xs w sc ≡ (lent_run j xs w sc).scratch)
run_typed = returned.run_typed

pub load_typed : (j : Job) (f : List ℕ) (asked : ℕ) (xs w sc : List ℕ)
    → (file_at_of j.work (device_out j.device) (state_out j.state) j.pins.rp j.pins.wp j.pins.vpp j.block f asked xs w sc ≡ ran_numbers (load_left j xs w sc f asked).ran)
    × (array_file_at j.work (device_out j.device) (state_out j.state) j.pins.rp j.pins.wp j.pins.vpp j.block f asked xs w sc ≡ (load_left j xs w sc f asked).bytes)
    × (wanted_file_at j.work (device_out j.device) (state_out j.state) j.pins.rp j.pins.wp j.pins.vpp j.block f asked xs w sc ≡ (load_left j xs w sc f asked).wanted)
    × (scratch_file_at j.work (device_out j.device) (state_out j.state) j.pins.rp j.pins.wp j.pins.vpp j.block f asked xs w sc ≡ (load_left j xs w sc f asked).scratch)
load_typed = returned.load_typed

pub wear_add_typed : (part : ℕ) (r : Report) (from : ℕ) (w : Wear)
    → wear_added part (report_out r) from (wear_out w) ≡ reported_out (added_to part r from w)
wear_add_typed = wears.wear_add_typed
