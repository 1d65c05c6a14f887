-- Loader and model stepped against each other. The array, scratch and what is wanted are lists of units.
use Rattle.std.specs.Prelude.{Bool, true, false, List, [], ℕ, zero, suc, ◌+◌, if◌then◌else◌}
use Rattle.device.specs.declared.Device.{Device}
use Rattle.model_types.specs.declared.State.{State}
use Rattle.model.specs.declared.Seen.{Seen}
use Rattle.model.specs.declared.Seen.TheVariants.{NoData, Data, Refused}
use Rattle.model.specs.declared.Answer.{Answer}
use Rattle.model.specs.Arrays.{answer_of, array_after}
use Rattle.loader.specs.declared.Loader.{Loader}
use Rattle.loader.specs.Stages.{is_ended}
use Rattle.loader_moves.specs.Moves.{next_of, ended_by}
use Rattle.loader_steps.specs.Outs.{cycle_of}
use Rattle.loader_stores.specs.Stores.{store_of}

-- a load under way: the loader's record, the device's state, the array, scratch, and the cycles made
pub record Config : Type 0 where
  pub loader : Loader
  pub state : State
  pub bytes : List ℕ
  pub scratch : List ℕ
  pub count : ℕ

-- the cycle was refused
abbrev pub is_refused : Seen → Bool
is_refused NoData = false
is_refused (Data b) = false
is_refused (Refused n) = true

-- the number that an answer holds: the data, 0 where none are given, or that of the refusal
abbrev pub number_in : Seen → ℕ
number_in NoData = 0
number_in (Data b) = b
number_in (Refused n) = n

-- the number of a refusal, 0 where the answer is none
abbrev pub refusal_number : Seen → ℕ
refusal_number NoData = 0
refusal_number (Data v) = 0
refusal_number (Refused n) = n

-- what the loader makes of the model's answer: it takes the data, 0 where none are given; a refusal would end the load
abbrev pub loader_by : Seen → Loader → List ℕ → List ℕ → Loader
loader_by NoData l w sc = next_of l 0 w (store_of l 0 w sc)
loader_by (Data b) l w sc = next_of l b w (store_of l b w sc)
loader_by (Refused n) l w sc = ended_by l n

-- .. what becomes of scratch
abbrev pub scratch_by : Seen → Loader → List ℕ → List ℕ → List ℕ
scratch_by NoData l w sc = store_of l 0 w sc
scratch_by (Data b) l w sc = store_of l b w sc
scratch_by (Refused n) l w sc = sc

-- the model's answer to the cycle that is out; a run has no residue
unfoldable pub answer_to : Device → List ℕ → Loader → State → List ℕ → Answer
answer_to d w l s xs = answer_of d s (cycle_of l w) xs []

-- the array after that cycle
unfoldable pub array_to : Device → List ℕ → Loader → State → List ℕ → List ℕ
array_to d w l s xs = array_after d s (cycle_of l w) xs []

-- one cycle made
abbrev pub moved : Device → List ℕ → Config → Config
moved d w c =
    record {
      loader = loader_by (answer_to d w c.loader c.state c.bytes).seen c.loader w c.scratch;
      state = (answer_to d w c.loader c.state c.bytes).state;
      bytes = array_to d w c.loader c.state c.bytes;
      scratch = scratch_by (answer_to d w c.loader c.state c.bytes).seen c.loader w c.scratch;
      count = c.count + 1;
    }

-- a turn: one cycle, and none after the end (R-order-5)
unfoldable pub turn_of : Device → List ℕ → Config → Config
turn_of d w c = if is_ended c.loader.stage then c else moved d w c

-- k turns
abbrev pub after : ℕ → Device → List ℕ → Config → Config
after zero d w c = c
after (suc k) d w c = after k d w (turn_of d w c)
