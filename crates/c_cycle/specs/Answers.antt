-- What a cycle answers, as plain numbers.
use Rattle.std.specs.Prelude.{List, ℕ, if◌then◌else◌}
use Rattle.units.specs.Units.{units, lent}
use Rattle.model_types.specs.declared.State.{State}
use Rattle.model.specs.declared.Seen.{Seen}
use Rattle.model.specs.declared.Seen.TheVariants.{NoData, Data, Refused}
use Rattle.model.specs.declared.Answer.{Answer}
use Rattle.model.specs.Arrays.{answer_of, bytes_after}
use Rattle.c_cycle.specs.Values.{device_in, state_in, state_out, cycle_in, no_state}
use Rattle.c_cycle.specs.declared.DeviceNumbers.{DeviceNumbers}
use Rattle.c_cycle.specs.declared.BusNumbers.{BusNumbers}
use Rattle.c_cycle.specs.declared.StateNumbers.{StateNumbers}
use Rattle.c_cycle.specs.declared.AnswerNumbers.{AnswerNumbers}

-- the state that goes back for a state that came in; numbers that stand for none go back as they came
unfoldable pub state_back : StateNumbers → State → StateNumbers
state_back n s = if no_state n then n else state_out s

-- what is seen of a cycle: 0 no data, 1 data, 2 a refusal
abbrev pub seen_out : Seen → ℕ
seen_out NoData = 0
seen_out (Data v) = 1
seen_out (Refused n) = 2

-- the data or the refusal's number, 0 without either
abbrev pub value_out : Seen → ℕ
value_out NoData = 0
value_out (Data v) = v
value_out (Refused n) = n

-- an answer as numbers, its state for the numbers that came in
abbrev pub answer_out : StateNumbers → Answer → AnswerNumbers
answer_out n a = record { seen = seen_out a.seen; value = value_out a.seen; state = state_back n a.state }

-- a bus cycle: the answer, by the units of the lent bytes
unfoldable pub cycled : DeviceNumbers → StateNumbers → BusNumbers → List ℕ → List ℕ → AnswerNumbers
cycled d s c xs rs =
    answer_out s (answer_of (device_in d) (state_in s) (cycle_in c) (lent (device_in d).part.word xs) (units (device_in d).part.word rs))

-- .. and the lent bytes of the array after it
unfoldable pub array_cycled : DeviceNumbers → StateNumbers → BusNumbers → List ℕ → List ℕ → List ℕ
array_cycled d s c xs rs = bytes_after (device_in d) (state_in s) (cycle_in c) xs rs
