-- Modes and phases as letters, and a row's state, counts and device.
use Rattle.std.specs.Prelude.{ℕ, ◌+◌, ◌%◌, Bool, ◌&&◌, List, eqb, get_or, if◌then◌else◌}
use Rattle.device.specs.declared.Device.{Device}
use Rattle.model_types.specs.declared.Mode.{Mode}
use Rattle.model_types.specs.declared.Mode.TheVariants.{Array, Status, Identifier}
use Rattle.model_types.specs.declared.Phase.{Phase}
use Rattle.model_types.specs.declared.Phase.TheVariants.{Free, EraseAwaited, DataAwaited, Programming, Erasing, Suspending, Suspended}
use Rattle.model_types.specs.declared.State.{State}
use Rattle.model_types.specs.declared.Wear.{Wear}
use Rattle.vectors_text.specs.Text.{number_read, field_of}

-- the mode of a letter: A, S, and the identifier for any other
unfoldable pub mode_by : ℕ → Mode
mode_by x =
    if eqb x 65 then Array
    else if eqb x 83 then Status
    else Identifier

-- the phase of a letter: F, C, D, P with what it programs, E, U with its cycles to go, and suspended for any other
unfoldable pub phase_by : ℕ → ℕ → Phase
phase_by x value =
    if eqb x 70 then Free
    else if eqb x 67 then EraseAwaited
    else if eqb x 68 then DataAwaited
    else if eqb x 80 then Programming value
    else if eqb x 69 then Erasing
    else if eqb x 85 then Suspending (value % 256)
    else Suspended

-- the letter of a mode, and of a phase
abbrev pub mode_letter : Mode → ℕ
mode_letter Array = 65
mode_letter Status = 83
mode_letter Identifier = 73

-- the letter of a phase
abbrev pub phase_letter : Phase → ℕ
phase_letter Free = 70
phase_letter EraseAwaited = 67
phase_letter DataAwaited = 68
phase_letter (Programming value) = 80
phase_letter Erasing = 69
phase_letter (Suspending n) = 85
phase_letter Suspended = 83

-- the number of n letters from a place of a row on
abbrev pub number_at : List ℕ → ℕ → ℕ → ℕ → ℕ
number_at row base place n = number_read base (field_of row place n)

-- the counts that stand in a row from a place on: seven numbers of ten digits, each with a space behind it
unfoldable pub wear_at : List ℕ → ℕ → Wear
wear_at row from = record {
  block0 = number_at row 10 from 10;
  block1 = number_at row 10 (from + 11) 10;
  block2 = number_at row 10 (from + 22) 10;
  block3 = number_at row 10 (from + 33) 10;
  block4 = number_at row 10 (from + 44) 10;
  block5 = number_at row 10 (from + 55) 10;
  block6 = number_at row 10 (from + 66) 10;
}

-- the state that a row tells, with these counts
unfoldable pub state_at : List ℕ → Wear → State
state_at row worn = record {
  mode = mode_by (get_or row 5 0);
  status = number_at row 16 2 2 % 256;
  phase = phase_by (get_or row 7 0) (number_at row 16 8 4 % 65536);
  left = number_at row 10 13 5 % 65536;
  address = number_at row 16 19 8;
  wear = worn;
}

-- word mode by its digit: 1 for words, any other for bytes
abbrev pub word_by : ℕ → Bool
word_by x = eqb x 49

-- the device that a row tells
unfoldable pub device_at : List ℕ → Device
device_at row = record {
  part = record { number = number_at row 10 2 3 % 256; word = word_by (get_or row 6 0) };
  program = number_at row 10 8 5 % 65536;
  erase = number_at row 10 14 5 % 65536;
  suspend = number_at row 10 20 3 % 256;
}

-- two devices' counts are the same
abbrev pub same_wear : Wear → Wear → Bool
same_wear a b =
    (((((eqb a.block0 b.block0 && eqb a.block1 b.block1) && eqb a.block2 b.block2) && eqb a.block3 b.block3)
    && eqb a.block4 b.block4) && eqb a.block5 b.block5) && eqb a.block6 b.block6

-- two states are the same: modes and phases by their letters
abbrev pub same_state : State → State → Bool
same_state a b =
    ((((eqb (mode_letter a.mode) (mode_letter b.mode) && eqb (phase_letter a.phase) (phase_letter b.phase))
    && eqb a.status b.status) && eqb a.left b.left) && eqb a.address b.address) && same_wear a.wear b.wear
