-- What may touch which byte: any cycles on lent bytes by either engine, and the statement that the manual prints. Addresses x are byte
-- addresses of the lent array in both widths.
use Rattle.std.specs.Prelude.{◌≡◌, Bool, true, false, not, ◌&&◌, ◌||◌, List, [], ◌∷◌, ℕ, zero, suc, ◌+◌, ◌<◌, length, get_or, take, eqb}
use Rattle.std.specs.Prelude.{ltb, leb}
use Rattle.std.specs.Int.Bits.{bit_and}
use Rattle.units.specs.Units.{units, lent, bytes_in}
use Rattle.units.specs.Address.{byte_of}
use Rattle.device.specs.declared.Part.{Part}
use Rattle.device.specs.declared.Device.{Device}
use Rattle.device.specs.Parts.{unknown_device, size_of, start_of, length_of}
use Rattle.model_types.specs.declared.State.{State}
use Rattle.model_types.specs.declared.Cycle.{Cycle}
use Rattle.model_types.specs.declared.Kind.TheVariants.{Write}
use Rattle.model_types.specs.declared.Effect.{Effect}
use Rattle.model_types.specs.declared.Effect.TheVariants.{Nothing, Program, Erase, CutProgram, CutErase}
use Rattle.model_levels.specs.Levels.{vpp_high, unlocked, locked}
use Rattle.model_states.specs.States.{improper}
use Rattle.model_actions.specs.Performed.{unsupplied}
use Rattle.model_rules.specs.Cycles.{number_of, decide_of}
use Rattle.model.specs.declared.Answer.{Answer}
use Rattle.model.specs.Arrays.{Accepted, answer_of, bytes_after}
use Rattle.model.specs.Begun.{operation_of, asked_by, begun_by}
use Rattle.model_history.specs.History.{Bus, World, world_of}
use Rattle.table_engine.specs.Engine.{table_answer, table_bytes}

-- an engine: what it answers to a cycle on units, and what it leaves of the lent bytes
pub record Engine : Type 0 where
  pub answer : Device → State → Cycle → List ℕ → List ℕ → Answer
  pub leaves : Device → State → Cycle → List ℕ → List ℕ → List ℕ

-- the engine by rules, and the engine by the table
abbrev pub by_rules : Engine
by_rules = record { answer = answer_of; leaves = bytes_after }

-- the engine by the table
abbrev pub by_table : Engine
by_table = record { answer = table_answer; leaves = table_bytes }

-- our two engines (R-touch-2)
pub data Ours : Engine → Type 0 where
  rules : Ours by_rules
  table : Ours by_table

-- an engine's answer to a cycle on lent bytes
abbrev pub answer_on : Engine → Device → World → Bus → Answer
answer_on g d v b = g.answer d v.state b.cycle (lent d.part.word v.bytes) (units d.part.word b.residue)

-- a device with its lent bytes after one cycle
abbrev pub after_cycle : Engine → Device → World → Bus → World
after_cycle g d v b = world_of (answer_on g d v b).state (g.leaves d v.state b.cycle v.bytes b.residue)

-- .. after a list of them
abbrev pub after_all : Engine → Device → World → List Bus → World
after_all g d v [] = v
after_all g d v (b ∷ bs) = after_all g d (after_cycle g d v b) bs

-- .. before cycle i of a list: after the i cycles in front of it
abbrev pub before : Engine → Device → World → List Bus → ℕ → World
before g d v bs i = after_all g d v (take i bs)

-- cycle i of a list is b, counted from 0
abbrev pub At : List Bus → ℕ → Bus → Type 0
At [] i b = ⊥
At (c ∷ bs) zero b = c ≡ b
At (c ∷ bs) (suc i) b = At bs i b

-- what a cycle does to the array: an operation ends or is cut, or nothing
abbrev pub effect_on : Device → World → Bus → Effect
effect_on d v b =
    (decide_of d v.state b.cycle (length (lent d.part.word v.bytes)) (length (units d.part.word b.residue))).effect

-- the operation that it begins
abbrev pub begun_on : Device → World → Bus → Effect
begun_on d v b = begun_by d v.state b.cycle (length (lent d.part.word v.bytes)) (length (units d.part.word b.residue))

-- the operation that it asks for at its own address: after 20H an erase by D0H, after 40H or 10H a program of its data
abbrev pub asked_on : Device → World → Bus → Effect
asked_on d v b = asked_by v.state.phase d.part b.cycle

-- byte x is one of the bytes of n units from unit a on
unfoldable pub among_bytes : Bool → ℕ → ℕ → ℕ → Bool
among_bytes w a n x = leb (byte_of w a) x && ltb x (byte_of w a + bytes_in w n)

-- .. of unit a alone: a byte, in word mode both bytes of a word
abbrev pub in_unit : Part → ℕ → ℕ → Bool
in_unit part a x = among_bytes part.word a 1 x

-- .. of block k; block 0 is the boot block
abbrev pub in_block : Part → ℕ → ℕ → Bool
in_block part k x = among_bytes part.word (start_of part k) (length_of part k) x

-- byte x is one of the bytes that an operation is on: a program's byte or word, an erase's block
abbrev pub is_on : Part → Effect → ℕ → Bool
is_on part Nothing x = false
is_on part (Program a y) x = in_unit part a x
is_on part (Erase k) x = in_block part k x
is_on part (CutProgram a y) x = in_unit part a x
is_on part (CutErase k) x = in_block part k x

-- the byte at a byte address
abbrev pub byte_in : World → ℕ → ℕ
byte_in v x = get_or v.bytes x 0

-- byte x is another one
abbrev pub Differs : World → World → ℕ → Type 0
Differs v w x = byte_in w x ≡ byte_in v x → ⊥

-- no byte is another one but those that pass a test
abbrev pub TouchesOnly : (ℕ → Bool) → World → World → Type 0
TouchesOnly own v w = (x : ℕ) → own x ≡ false → byte_in w x ≡ byte_in v x

-- bits are only cleared: every bit that is set was set (R-touch-2)
abbrev pub OnlyClears : World → World → Type 0
OnlyClears v w = (x : ℕ) → bit_and (byte_in v x) (byte_in w x) ≡ byte_in w x

-- a confirm, D0H or data, of an operation that byte x is one of the bytes of: where in the list, which cycle with its address and levels;
-- an accepted write that begins what it asks for, with VPP high (R-touch-1)
pub record Confirmed (g : Engine) (d : Device) (v : World) (bs : List Bus) (x : ℕ) : Type 0 where
  pub index : ℕ
  pub bus : Bus
  pub there : At bs index bus
  pub write : bus.cycle.kind ≡ Write
  pub accepted : Accepted (answer_on g d (before g d v bs index) bus)
  pub begins : begun_on d (before g d v bs index) bus ≡ asked_on d (before g d v bs index) bus
  pub own : is_on d.part (asked_on d (before g d v bs index) bus) x ≡ true
  pub supplied : vpp_high d.part bus.cycle.pins ≡ true

-- .. in front of place i of the list
pub record ConfirmedBefore (g : Engine) (d : Device) (v : World) (bs : List Bus) (i x : ℕ) : Type 0 where
  pub confirm : Confirmed g d v bs x
  pub sooner : confirm.index < i

-- a confirm was made unlocked: by the levels of its own cycle (R-touch-1)
abbrev pub Unlocked : {g : Engine} {d : Device} {v : World} {bs : List Bus} {x : ℕ} → Confirmed g d v bs x → Type 0
Unlocked {d = d} k = unlocked d.part k.bus.cycle.pins k.bus.cycle.oe ≡ true

-- the statement, a field for each sentence, of the cycles bs from v on by an engine; two fields more than it has sentences
-- (R-touch-1, R-touch-2)
pub record Manual (g : Engine) (d : Device) (v : World) (bs : List Bus) : Type 0 where
  -- A byte changes only where an operation on it, or on its block, was confirmed, and VPP was high at that confirm.
  pub byte_changes : (x : ℕ) → Differs v (after_all g d v bs) x → Confirmed g d v bs x
  -- A byte of the boot block changes only where that confirm was made unlocked.
  pub boot_byte : (x : ℕ) (h : Differs v (after_all g d v bs) x) → in_block d.part 0 x ≡ true → Unlocked (byte_changes x h)
  -- A program that is not cut only clears bits, and touches one byte, or in word mode one word.
  pub program : (i : ℕ) (b : Bus) → At bs i b → (a y : ℕ) → effect_on d (before g d v bs i) b ≡ Program a y
      → OnlyClears (before g d v bs i) (after_cycle g d (before g d v bs i) b)
      × TouchesOnly (in_unit d.part a) (before g d v bs i) (after_cycle g d (before g d v bs i) b)
  -- An erase touches its own block and nothing else, whether it is cut or not.
  pub erase : (i : ℕ) (b : Bus) → At bs i b → (k : ℕ) → operation_of (effect_on d (before g d v bs i) b) ≡ Erase k
      → TouchesOnly (in_block d.part k) (before g d v bs i) (after_cycle g d (before g d v bs i) b)
  -- A program that is cut only clears bits too, and touches no more.
  pub cut_program : (i : ℕ) (b : Bus) → At bs i b → (a y : ℕ) → effect_on d (before g d v bs i) b ≡ CutProgram a y
      → OnlyClears (before g d v bs i) (after_cycle g d (before g d v bs i) b)
      × TouchesOnly (in_unit d.part a) (before g d v bs i) (after_cycle g d (before g d v bs i) b)
  -- A cycle in which no operation ends and none is cut touches nothing.
  pub no_effect : (i : ℕ) (b : Bus) → At bs i b → effect_on d (before g d v bs i) b ≡ Nothing
      → (after_cycle g d (before g d v bs i) b).bytes ≡ (before g d v bs i).bytes

-- an operation that the cycle at a place in front of place i begins
pub record Begun (g : Engine) (d : Device) (v : World) (bs : List Bus) (i : ℕ) (op : Effect) : Type 0 where
  pub index : ℕ
  pub sooner : index < i
  pub bus : Bus
  pub there : At bs index bus
  pub begins : begun_on d (before g d v bs index) bus ≡ op

-- a confirm, carried out or not: a write that asks for an operation
abbrev pub IsConfirm : Device → World → Bus → Type 0
IsConfirm d v b = (b.cycle.kind ≡ Write) × (asked_on d v b ≡ Nothing → ⊥)

-- a cycle that is refused, or barred by VPP low or SR.3, or locked
abbrev pub stopped : Device → World → Bus → Bool
stopped d v b =
    (not (eqb (number_of d v.state b.cycle (length (lent d.part.word v.bytes)) (length (units d.part.word b.residue))) 0)
    || unsupplied d.part b.cycle v.state)
    || locked d.part b.cycle

-- a start that every cycle refuses: the device is not known, the array has not its length, or the state is improper
abbrev pub wrong_start : Device → World → Bool
wrong_start d v = (unknown_device d || not (eqb (length (lent d.part.word v.bytes)) (size_of d.part))) || improper d v.state

-- the same on units, where the history of cycles is told
abbrev pub on_units : Device → World → World
on_units d v = world_of v.state (lent d.part.word v.bytes)

-- .. cycles with their residue in units
abbrev pub buses_on : Device → List Bus → List Bus
buses_on d [] = []
buses_on d (b ∷ bs) = record { cycle = b.cycle; residue = units d.part.word b.residue } ∷ buses_on d bs
