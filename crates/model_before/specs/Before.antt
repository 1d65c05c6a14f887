-- The rules as they were before devices 5 to 8, word for word: every definition that has changed since, or that stands on one that has.
-- What is taken from elsewhere has not changed.
use Rattle.std.specs.Prelude.{Bool, true, false, not, ◌&&◌, ◌||◌, List, [], ◌∷◌, ◌++◌, ℕ, ◌+◌, ◌-◌, length, get_or, set, take, replicate}
use Rattle.std.specs.Prelude.{eqb, ltb, leb, if◌then◌else◌}
use Rattle.std.specs.Int.Bits.{bit_and, bit_or}
use Rattle.common.specs.Numbers.{Row, row, given}
use Rattle.common.specs.Lists.{overlaid}
use Rattle.device.specs.Parts.{four_blocks, size_in, length_in, start_in, block_in}
use Rattle.device.specs.declared.Part.{Part}
use Rattle.device.specs.declared.Device.{Device}
use Rattle.device.specs.declared.Shape.{Shape}
use Rattle.model_types.specs.declared.Mode.{Mode}
use Rattle.model_types.specs.declared.Mode.TheVariants.{Array, Status, Identifier}
use Rattle.model_types.specs.declared.Kind.{Kind}
use Rattle.model_types.specs.declared.Kind.TheVariants.{Read, Write, Idle}
use Rattle.model_types.specs.declared.Phase.{Phase}
use Rattle.model_types.specs.declared.Phase.TheVariants.{Free, EraseAwaited, DataAwaited, Programming, Erasing, Suspending, Suspended}
use Rattle.model_types.specs.declared.Action.{Action}
use Rattle.model_types.specs.declared.Action.TheVariants.{ToArray, ToIdentifier, ToStatus, Clear, AwaitErase, AwaitData, Confirm, Store}
use Rattle.model_types.specs.declared.Action.TheVariants.{WrongSecond, Suspend, Resume, Ignore, Refuse}
use Rattle.model_types.specs.declared.Effect.{Effect}
use Rattle.model_types.specs.declared.Effect.TheVariants.{Nothing, Program, Erase, CutProgram, CutErase}
use Rattle.model_types.specs.declared.Reply.{Reply}
use Rattle.model_types.specs.declared.Reply.TheVariants.{Quiet, Gives, GivesArray}
use Rattle.model_types.specs.declared.Settled.{Settled}
use Rattle.model_types.specs.declared.Decision.{Decision}
use Rattle.model_types.specs.declared.State.{State}
use Rattle.model_types.specs.declared.Pins.{Pins}
use Rattle.model_types.specs.declared.Cycle.{Cycle}
use Rattle.model_types.specs.Kinds.{is_read, is_write, is_idle}
use Rattle.model_levels.specs.Levels.{rp_low}
use Rattle.model_types.specs.Phases.{is_busy, is_suspending, is_suspended, is_pending}
use Rattle.model_types.specs.Status.{SR7, SR6, SR5, SR4, SR3, with_bits, without_bits, is_set}
use Rattle.model_states.specs.States.{is_array, is_identifier, proper_mode, proper_ready, proper_held, proper_low, proper_left}
use Rattle.model_states.specs.States.{proper_suspend}
use Rattle.model_states.specs.States.{is_at_rest, in_phase, reset_of}
use Rattle.model_commands.specs.Commands.{after_erase, while_erasing, while_suspending, while_suspended, is_refuse}
use Rattle.model_actions.specs.Performed.{in_mode, with_status, wear_by}
use Rattle.model_operation.specs.Settling.{settled_as, cut_bits, suspend_passed}
use Rattle.model_rules.specs.Cycles.{decided_as, refused_by}
use Rattle.model.specs.Arrays.{seen_of}
use Rattle.model.specs.declared.Answer.{Answer}

-- the table of parts: 28F001BX-T, 28F001BX-B, bench T, bench B
abbrev pub shape_of : Part → Shape
shape_of p =
    if eqb p.number 1 then four_blocks 8192 4096 114688 true 0x94
    else if eqb p.number 2 then four_blocks 8192 4096 114688 false 0x95
    else if eqb p.number 3 then four_blocks 1024 512 14336 true 0x94
    else four_blocks 1024 512 14336 false 0x95

-- refusal 1 of a part: its number is not 1 to 4
abbrev pub unknown_part : Part → Bool
unknown_part p = eqb p.number 0 || ltb 4 p.number

-- refusal 1 of a device: the part is not known, P or E is zero, or S is not 1 to 100
abbrev pub unknown_device : Device → Bool
unknown_device d = (((unknown_part d.part || eqb d.program 0) || eqb d.erase 0) || eqb d.suspend 0) || ltb 100 d.suspend

-- the same of a part: the bytes of its array
abbrev pub size_of : Part → ℕ
size_of p = size_in (shape_of p)

-- the bytes of block k
abbrev pub length_of : Part → ℕ → ℕ
length_of p k = length_in (shape_of p) k

-- the first address of block k
abbrev pub start_of : Part → ℕ → ℕ
start_of p k = start_in (shape_of p) k

-- the block that holds an address
abbrev pub block_of : Part → ℕ → ℕ
block_of p a = block_in (shape_of p) a

-- the part's own identifier code
abbrev pub code_of : Part → ℕ
code_of p = (shape_of p).code

-- an erased cell of a part: all ones, of a byte today
abbrev pub ones : Part → ℕ
ones part = 255

-- VPP is low: 0 to 6,500 mV
abbrev pub vpp_low : Part → Pins → Bool
vpp_low part p = leb p.vpp 6500

-- VPP is high: 11,400 to 12,600 mV
abbrev pub vpp_high : Part → Pins → Bool
vpp_high part p = leb 11400 p.vpp && leb p.vpp 12600

-- RP# is not 0, 1 or 2, or VPP is in neither band
abbrev pub bad_pins : Part → Pins → Bool
bad_pins part p = ltb 2 p.rp || not (vpp_low part p || vpp_high part p)

-- OE# is not 0, nor 1 on a write
abbrev pub bad_oe : Part → Kind → ℕ → Bool
bad_oe part Read oe = ltb 0 oe
bad_oe part Write oe = ltb 1 oe
bad_oe part Idle oe = ltb 0 oe

-- refusal 4: a pin level outside what the cycle allows
abbrev pub bad_levels : Part → Cycle → Bool
bad_levels part c = bad_pins part c.pins || bad_oe part c.kind c.oe

-- RP# or OE# at V_HH unlocks the boot block
abbrev pub unlocked : Part → Pins → ℕ → Bool
unlocked part p oe = eqb p.rp 2 || eqb oe 1

-- the address is in the boot block, and neither RP# nor OE# is at V_HH
abbrev pub locked : Part → Cycle → Bool
locked part c = not (unlocked part c.pins c.oe) && eqb (block_of part c.address) 0

-- the operation's address: inside the array, zero without one
abbrev pub proper_address : Device → Phase → ℕ → Bool
proper_address d ph a = if is_pending ph then ltb a (size_of d.part) else eqb a 0

-- a proper state
abbrev pub proper : Device → State → Bool
proper d s =
    proper_mode s.phase s.mode
    && proper_ready s.phase s.status
    && proper_held s.phase s.status
    && proper_low s.status
    && proper_left d s.phase s.left
    && proper_suspend d s.phase
    && proper_address d s.phase s.address

-- refusal 3: the state is not proper
abbrev pub improper : Device → State → Bool
improper d s = not (proper d s)

-- the command byte of a cycle: its data
abbrev pub command_of : Cycle → ℕ
command_of c = c.data

-- nothing awaited, running or suspended: B0H too sets read array
abbrev pub first_write : ℕ → Action
first_write b =
    if eqb b 0xFF then ToArray
    else if eqb b 0xB0 then ToArray
    else if eqb b 0x90 then ToIdentifier
    else if eqb b 0x70 then ToStatus
    else if eqb b 0x50 then Clear
    else if eqb b 0x20 then AwaitErase
    else if eqb b 0x40 then AwaitData
    else Refuse

-- the command rules: after 40H every byte is data, and a busy program ignores every write
abbrev pub action_of : Part → Phase → ℕ → Action
action_of part Free b = first_write b
action_of part EraseAwaited b = after_erase b
action_of part DataAwaited b = Store
action_of part (Programming x) b = Ignore
action_of part Erasing b = while_erasing b
action_of part (Suspending n) b = while_suspending b
action_of part Suspended b = while_suspended b

-- VPP is low at this cycle, or SR.3 is still set
abbrev pub unsupplied : Part → Cycle → State → Bool
unsupplied part c s = vpp_low part c.pins || is_set s.status SR3

-- a confirm or data: unsupplied sets SR.3 and the operation's error bit, locked the error bit (where both apply, the bits are
-- those of the first); otherwise the operation starts at this cycle's address with its busy time to go and SR.7 clear;
-- an erase is counted, which it was not before
abbrev pub started_of : Part → Cycle → State → Phase → ℕ → ℕ → State
started_of part c s ph time bit =
    if unsupplied part c s then is_at_rest s s.mode (with_bits (with_bits s.status SR3) bit)
    else if locked part c then is_at_rest s s.mode (with_bits s.status bit)
    else record {
      mode = s.mode;
      status = without_bits s.status SR7;
      phase = ph;
      left = time;
      address = c.address;
      wear = wear_by ph part c s.wear;
    }

-- what an action makes of the state; a suspend takes S cycles, of which this is none
abbrev pub performed_of : Action → Device → Cycle → State → State
performed_of ToArray d c s = in_mode Array s
performed_of ToIdentifier d c s = in_mode Identifier s
performed_of ToStatus d c s = in_mode Status s
performed_of Clear d c s = with_status (without_bits s.status (SR5 + SR4 + SR3)) s
performed_of AwaitErase d c s = in_phase EraseAwaited s.status s
performed_of AwaitData d c s = in_phase DataAwaited s.status s
performed_of Confirm d c s = started_of d.part c s Erasing d.erase SR5
performed_of Store d c s = started_of d.part c s (Programming c.data) d.program SR4
performed_of WrongSecond d c s = is_at_rest s s.mode (with_bits s.status (SR5 + SR4))
performed_of Suspend d c s = in_phase (Suspending d.suspend) s.status s
performed_of Resume d c s = in_phase Erasing (without_bits s.status (SR7 + SR6)) s
performed_of Ignore d c s = s
performed_of Refuse d c s = s

-- the cut of the operation that is running, being suspended or suspended at an address
abbrev pub cut_of : Phase → Part → ℕ → Effect
cut_of Free part a = Nothing
cut_of EraseAwaited part a = Nothing
cut_of DataAwaited part a = Nothing
cut_of (Programming b) part a = CutProgram a b
cut_of Erasing part a = CutErase (block_of part a)
cut_of (Suspending n) part a = CutErase (block_of part a)
cut_of Suspended part a = CutErase (block_of part a)

-- the end of the operation that is running
abbrev pub finish_of : Phase → Part → ℕ → Effect
finish_of Free part a = Nothing
finish_of EraseAwaited part a = Nothing
finish_of DataAwaited part a = Nothing
finish_of (Programming b) part a = Program a b
finish_of Erasing part a = Erase (block_of part a)
finish_of (Suspending n) part a = Nothing
finish_of Suspended part a = Nothing

-- the residue bytes that a cut needs: one for a program, the block's for an erase
abbrev pub residue_for : Phase → Part → ℕ → ℕ
residue_for Free part a = 0
residue_for EraseAwaited part a = 0
residue_for DataAwaited part a = 0
residue_for (Programming b) part a = 1
residue_for Erasing part a = length_of part (block_of part a)
residue_for (Suspending n) part a = length_of part (block_of part a)
residue_for Suspended part a = length_of part (block_of part a)

-- step 1: RP# low
abbrev pub reset_by : Part → State → Settled
reset_by part s = settled_as (reset_of s) (cut_of s.phase part s.address)

-- step 2: VPP low with an operation running, being suspended or suspended; SR.6 is cleared
abbrev pub cut_by : Part → State → Settled
cut_by part s =
    settled_as (is_at_rest s Status (with_bits (without_bits s.status SR6) (cut_bits s.phase))) (cut_of s.phase part s.address)

-- step 3: a running operation counts one cycle off; at zero it is finished
abbrev pub counted_off : Part → State → Settled
counted_off part s =
    if eqb (s.left - 1) 0 then settled_as (is_at_rest s s.mode (with_bits s.status SR7)) (finish_of s.phase part s.address)
    else settled_as (record {
      mode = s.mode;
      status = s.status;
      phase = s.phase;
      left = s.left - 1;
      address = s.address;
      wear = s.wear;
    }) Nothing

-- step 3 of a busy device
abbrev pub passed_of : Part → State → Settled
passed_of part s = if is_suspending s.phase then suspend_passed s else counted_off part s

-- the three steps in their order
abbrev pub settle_of : Part → State → Pins → Settled
settle_of part s p =
    if rp_low p then reset_by part s
    else if vpp_low part p && is_pending s.phase then cut_by part s
    else if is_busy s.phase then passed_of part s
    else settled_as s Nothing

-- refusal 5: the address is past the array; not asked with RP# low, nor of an idle cycle
abbrev pub past_array : Part → Cycle → Bool
past_array part c = (leb (size_of part) c.address && not (rp_low c.pins)) && not (is_idle c.kind)

-- refusal 6: the cycle cuts an operation, and the residue is too short for it
abbrev pub short_residue : Part → State → Cycle → ℕ → Bool
short_residue part s c residue = (rp_low c.pins || vpp_low part c.pins) && ltb residue (residue_for s.phase part s.address)

-- refusal 7: a write of a byte that is no command
abbrev pub no_command : Part → State → Cycle → Bool
no_command part t c = (is_write c.kind && is_refuse (action_of part t.phase (command_of c))) && not (rp_low c.pins)

-- refusal 8: an array read in the suspended block
abbrev pub suspended_read : Part → State → Cycle → Bool
suspended_read part t c =
    (((is_read c.kind && is_suspended t.phase) && is_array t.mode) && eqb (block_of part c.address) (block_of part t.address))
    && not (rp_low c.pins)

-- which identifier code an address asks for, 0 or 1, any more being none: the address itself
abbrev pub code_place : Part → ℕ → ℕ
code_place part a = a

-- refusal 9: an identifier read elsewhere than at 0 and 1
abbrev pub no_identifier : Part → State → Cycle → Bool
no_identifier part t c = ((is_read c.kind && is_identifier t.mode) && ltb 1 (code_place part c.address)) && not (rp_low c.pins)

-- refusals 1 to 6, each by its own condition
abbrev pub early : Device → State → Cycle → ℕ → ℕ → List Row
early d s c array residue =
    row 1 (unknown_device d)
    ∷ row 2 (not (eqb array (size_of d.part)))
    ∷ row 3 (improper d s)
    ∷ row 4 (bad_levels d.part c)
    ∷ row 5 (past_array d.part c)
    ∷ row 6 (short_residue d.part s c residue)
    ∷ []

-- refusals 7 to 9, by the state that steps 2 and 3 would leave
abbrev pub late : Part → State → Cycle → List Row
late part t c = row 7 (no_command part t c) ∷ row 8 (suspended_read part t c) ∷ row 9 (no_identifier part t c) ∷ []

-- the table of a cycle
abbrev pub table_of : Device → State → Cycle → ℕ → ℕ → List Row
table_of d s c array residue = early d s c array residue ++ late d.part (settle_of d.part s c.pins).state c

-- the number of a cycle: the lowest that applies, 0 where none does
abbrev pub number_of : Device → State → Cycle → ℕ → ℕ → ℕ
number_of d s c array residue = given (table_of d s c array residue)

-- 89H at address 0, the part's code at 1
abbrev pub identifier_of : Part → ℕ → ℕ
identifier_of part a = if eqb (code_place part a) 0 then 0x89 else code_of part

-- a read, by mode
abbrev pub reply_to : Mode → Part → ℕ → ℕ → Reply
reply_to Array part a sr = GivesArray a
reply_to Status part a sr = Gives sr
reply_to Identifier part a sr = Gives (identifier_of part a)

-- step 4: the read or write itself
abbrev pub respond_of : Kind → Device → Cycle → Settled → Decision
respond_of Read d c t = decided_as (reply_to t.state.mode d.part c.address t.state.status) t.state t.effect
respond_of Write d c t = decided_as Quiet (performed_of (action_of d.part t.state.phase (command_of c)) d c t.state) t.effect
respond_of Idle d c t = decided_as Quiet t.state t.effect

-- with RP# low the cycle ends after step 1
abbrev pub accept_of : Device → Cycle → Settled → Decision
accept_of d c t = if rp_low c.pins then decided_as Quiet t.state t.effect else respond_of c.kind d c t

-- one bus cycle: refused by its number, or the four steps
abbrev pub decide_of : Device → State → Cycle → ℕ → ℕ → Decision
decide_of d s c array residue =
    if eqb (number_of d s c array residue) 0 then accept_of d c (settle_of d.part s c.pins)
    else refused_by (number_of d s c array residue) s

-- an erase that ends leaves ones in its whole block
abbrev pub erased : Part → ℕ → List ℕ → List ℕ
erased part k xs = overlaid xs (start_of part k) (replicate (length_of part k) (ones part))

-- an erase that is cut leaves residue byte i at byte i of the block
abbrev pub residual : Part → ℕ → List ℕ → List ℕ → List ℕ
residual part k rs xs = overlaid xs (start_of part k) (take (length_of part k) rs)

-- the array after an effect: a program leaves old AND data; cut, it leaves old AND (data OR r)
abbrev pub array_of : Effect → Part → List ℕ → List ℕ → List ℕ
array_of Nothing part rs xs = xs
array_of (Program at b) part rs xs = set xs at (bit_and (get_or xs at 0) b)
array_of (Erase k) part rs xs = erased part k xs
array_of (CutProgram at b) part rs xs = set xs at (bit_and (get_or xs at 0) (bit_or b (get_or rs 0 0)))
array_of (CutErase k) part rs xs = residual part k rs xs

-- the array after a cycle
abbrev pub array_after : Device → State → Cycle → List ℕ → List ℕ → List ℕ
array_after d s c xs rs = array_of (decide_of d s c (length xs) (length rs)).effect d.part rs xs

-- the answer to a cycle: its read sees the array as steps 1 to 3 leave it
abbrev pub answer_of : Device → State → Cycle → List ℕ → List ℕ → Answer
answer_of d s c xs rs =
    record {
      seen = seen_of (decide_of d s c (length xs) (length rs)).reply (array_after d s c xs rs);
      state = (decide_of d s c (length xs) (length rs)).state;
    }
