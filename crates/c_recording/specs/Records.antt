-- Recordings as plain numbers: the records, and what the check of them answers.
use Rattle.std.specs.Prelude.{List, [], ◌∷◌, ℕ, eqb, ltb, if◌then◌else◌, Option, Some, None}
use Rattle.recording.specs.declared.Noted.{Noted}
use Rattle.recording_walk.specs.declared.Checked.{Checked}
use Rattle.recording_walk.specs.Lists.{checked_of, bytes_checked}
use Rattle.c_cycle.specs.declared.DeviceNumbers.{DeviceNumbers}
use Rattle.c_cycle.specs.declared.StateNumbers.{StateNumbers}
use Rattle.c_cycle.specs.declared.BusNumbers.{BusNumbers}
use Rattle.c_cycle.specs.Values.{flag_out, device_in, state_in, state_out, cycle_in, cycle_out}
use Rattle.c_cycle.specs.Answers.{state_back}
use Rattle.c_recording.specs.declared.RecordNumbers.{RecordNumbers}
use Rattle.c_recording.specs.declared.CheckedNumbers.{CheckedNumbers}

-- the answer seen: 0 none, 1 data
unfoldable pub heard_in : ℕ → ℕ → Option ℕ
heard_in seen value = if eqb seen 0 then None else Some value

-- the kind of a record's cycle; where the answer seen is neither of the two, a kind that is none, so that every rule refuses the cycle
unfoldable pub kind_seen : ℕ → ℕ → ℕ
kind_seen seen kind = if ltb 1 seen then 3 else kind

-- the numbers of a record's cycle
abbrev pub bus_seen : RecordNumbers → BusNumbers
bus_seen n =
    record {
      kind = kind_seen n.seen n.bus.kind;
      rp = n.bus.rp;
      oe = n.bus.oe;
      wp = n.bus.wp;
      «data» = n.bus.data;
      vpp = n.bus.vpp;
      address = n.bus.address;
    }

-- numbers as a record, and as a list of records
abbrev pub record_in : RecordNumbers → Noted
record_in n = record { cycle = cycle_in (bus_seen n); heard = heard_in n.seen n.value; busy = n.busy }

-- .. a list of them
abbrev pub records_in : List RecordNumbers → List Noted
records_in [] = []
records_in (n ∷ ns) = record_in n ∷ records_in ns

-- a record's numbers, and a list's: without data the value is 0
abbrev pub seen_heard : Option ℕ → ℕ
seen_heard None = 0
seen_heard (Some v) = 1

-- the value of an answer that was recorded: its data, 0 without
abbrev pub value_heard : Option ℕ → ℕ
value_heard None = 0
value_heard (Some v) = v

-- a record as numbers
abbrev pub record_out : Noted → RecordNumbers
record_out r = record { bus = cycle_out r.cycle; seen = seen_heard r.heard; value = value_heard r.heard; busy = r.busy }

-- .. a list of them
abbrev pub records_out : List Noted → List RecordNumbers
records_out [] = []
records_out (r ∷ rs) = record_out r ∷ records_out rs

-- the numbers of the check's answer
abbrev pub checked_numbers : Checked → CheckedNumbers
checked_numbers c = record { refusal = c.number; accepted = flag_out c.accepted; at = c.at; state = state_out c.state }

-- the same, with the state that goes back for the one that came in
abbrev pub checked_out : StateNumbers → Checked → CheckedNumbers
checked_out n c = record { refusal = c.number; accepted = flag_out c.accepted; at = c.at; state = state_back n c.state }

-- a recording checked: the answer, and the lent bytes of the array
unfoldable pub checked_returned : DeviceNumbers → StateNumbers → List RecordNumbers → List ℕ → List ℕ → CheckedNumbers
checked_returned d s ns promised bytes = checked_out s (checked_of (device_in d) (state_in s) (records_in ns) promised bytes)

-- .. the lent bytes of the array after the check
unfoldable pub array_checked : DeviceNumbers → StateNumbers → List RecordNumbers → List ℕ → List ℕ
array_checked d s ns bytes = bytes_checked (device_in d) (state_in s) (records_in ns) bytes
