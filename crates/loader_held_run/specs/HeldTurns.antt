-- A load whose erase is interrupted, stepped against the model; bs are the addresses to read, ps the polls to interrupt.
use Rattle.std.specs.Prelude.{Bool, List, [], ℕ, zero, suc, ◌+◌, length, if◌then◌else◌}
use Rattle.device.specs.declared.Device.{Device}
use Rattle.model_types.specs.declared.Cycle.{Cycle}
use Rattle.model_types.specs.declared.State.{State}
use Rattle.model.specs.declared.Seen.{Seen}
use Rattle.model.specs.declared.Seen.TheVariants.{NoData, Data, Refused}
use Rattle.model.specs.declared.Answer.{Answer}
use Rattle.model.specs.Arrays.{answer_of, array_after}
use Rattle.loader.specs.declared.Loader.{Loader}
use Rattle.loader.specs.Stages.{is_ended}
use Rattle.loader_run.specs.Turns.{Config}
use Rattle.loader_held.specs.declared.Hold.{Hold}
use Rattle.loader_held.specs.declared.Pair.{Pair}
use Rattle.loader_held.specs.Holds.{stopped, held_next, held_scratch, held_room, held_cycle}

-- such a load under way: both records, the device's state, the array, scratch, the room, and the cycles made
pub record HeldConfig : Type 0 where
  pub loader : Loader
  pub hold : Hold
  pub state : State
  pub bytes : List ℕ
  pub scratch : List ℕ
  pub room : List ℕ
  pub count : ℕ

-- .. without what belongs to interruptions
abbrev pub bare : HeldConfig → Config
bare c = record { loader = c.loader; state = c.state; bytes = c.bytes; scratch = c.scratch; count = c.count }

-- what becomes of the records, scratch and the room by the model's answer
abbrev pub pair_by : Seen → Loader → Hold → ℕ → List ℕ → List ℕ → List ℕ → Pair
pair_by NoData l h k w sc ps = held_next h.step l h 0 k w sc ps
pair_by (Data v) l h k w sc ps = held_next h.step l h v k w sc ps
pair_by (Refused n) l h k w sc ps = stopped l h n

-- .. what becomes of scratch
abbrev pub scratch_held : Seen → Loader → Hold → ℕ → List ℕ → List ℕ → List ℕ
scratch_held NoData l h k w sc = held_scratch h.step l h 0 k w sc
scratch_held (Data v) l h k w sc = held_scratch h.step l h v k w sc
scratch_held (Refused n) l h k w sc = sc

-- .. what becomes of the room
abbrev pub room_by : Seen → Bool → Hold → List ℕ → List ℕ
room_by NoData word h room = held_room h.step word h 0 room
room_by (Data v) word h room = held_room h.step word h v room
room_by (Refused n) word h room = room

-- the cycle that is out, the model's answer to it, and the array after it
abbrev pub out_of : List ℕ → List ℕ → HeldConfig → Cycle
out_of w bs c = held_cycle c.hold.step c.loader c.hold w bs

-- .. the model's answer to it
unfoldable pub held_answer : Device → List ℕ → List ℕ → HeldConfig → Answer
held_answer d w bs c = answer_of d c.state (out_of w bs c) c.bytes []

-- .. the array after it
unfoldable pub held_array : Device → List ℕ → List ℕ → HeldConfig → List ℕ
held_array d w bs c = array_after d c.state (out_of w bs c) c.bytes []

-- one cycle made, by the answer and the array after it
abbrev pub moved_by : Seen → State → List ℕ → List ℕ → List ℕ → List ℕ → HeldConfig → HeldConfig
moved_by seen s xs w bs ps c =
    record {
      loader = (pair_by seen c.loader c.hold (length bs) w c.scratch ps).loader;
      hold = (pair_by seen c.loader c.hold (length bs) w c.scratch ps).hold;
      state = s;
      bytes = xs;
      scratch = scratch_held seen c.loader c.hold (length bs) w c.scratch;
      room = room_by seen c.loader.part.word c.hold c.room;
      count = c.count + 1;
    }

-- .. by the model's own answer
abbrev pub held_moved : Device → List ℕ → List ℕ → List ℕ → HeldConfig → HeldConfig
held_moved d w bs ps c = moved_by (held_answer d w bs c).seen (held_answer d w bs c).state (held_array d w bs c) w bs ps c

-- a turn: one cycle, and none after the end
unfoldable pub held_turn : Device → List ℕ → List ℕ → List ℕ → HeldConfig → HeldConfig
held_turn d w bs ps c = if is_ended c.loader.stage then c else held_moved d w bs ps c

-- .. k turns
abbrev pub held_after : ℕ → Device → List ℕ → List ℕ → List ℕ → HeldConfig → HeldConfig
held_after zero d w bs ps c = c
held_after (suc k) d w bs ps c = held_after k d w bs ps (held_turn d w bs ps c)

-- a load under way with what belongs to interruptions
abbrev pub beside : Config → Hold → List ℕ → HeldConfig
beside c h room =
    record { loader = c.loader; hold = h; state = c.state; bytes = c.bytes; scratch = c.scratch; room = room; count = c.count }
