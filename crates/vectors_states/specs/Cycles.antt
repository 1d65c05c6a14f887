-- A row's bus cycle, and its levels.
use Rattle.std.specs.Prelude.{ℕ, ◌%◌, List, eqb, if◌then◌else◌}
use Rattle.model_types.specs.declared.Cycle.{Cycle}
use Rattle.model_types.specs.declared.Kind.{Kind}
use Rattle.model_types.specs.declared.Kind.TheVariants.{Read, Write, Idle}
use Rattle.model_types.specs.declared.Pins.{Pins}
use Rattle.vectors_states.specs.Letters.{number_at}

-- the letter of a kind
abbrev pub kind_letter : Kind → ℕ
kind_letter Read = 82
kind_letter Write = 87
kind_letter Idle = 73

-- the kind of a letter: R, W, and idle for any other
abbrev pub kind_by : ℕ → Kind
kind_by x =
    if eqb x 82 then Read
    else if eqb x 87 then Write
    else Idle

-- the bus cycle that a row tells, of the kind of a letter
abbrev pub cycle_at : List ℕ → ℕ → Cycle
cycle_at row letter = record {
  kind = kind_by letter;
  pins = record { rp = number_at row 10 2 3 % 256; wp = number_at row 10 10 3 % 256; vpp = number_at row 10 14 10 };
  oe = number_at row 10 6 3 % 256;
  address = number_at row 16 25 8;
  «data» = number_at row 16 34 4 % 65536;
}

-- the levels that a row tells
abbrev pub levels_at : List ℕ → Pins
levels_at row = record { rp = number_at row 10 2 3 % 256; wp = number_at row 10 6 3 % 256; vpp = number_at row 10 10 10 }
