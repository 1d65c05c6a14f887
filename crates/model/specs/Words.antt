-- What is said of a word by its two bytes, and of a cycle without its high byte.
use Rattle.std.specs.Prelude.{List, ℕ, ◌+◌, ◌%◌, get_or, set}
use Rattle.std.specs.Int.Bits.{bit_and}
use Rattle.units.specs.Address.{first_byte}
use Rattle.model_types.specs.declared.Cycle.{Cycle}

-- old AND data at a place
abbrev pub programmed_at : List ℕ → ℕ → ℕ → List ℕ
programmed_at xs at v = set xs at (bit_and (get_or xs at 0) v)

-- the two bytes of word i programmed, each with its own data, the low byte first
abbrev pub pair_programmed : List ℕ → ℕ → ℕ → ℕ → List ℕ
pair_programmed xs i low high =
    let at : ℕ = (first_byte (record { word = i })).byte in
    programmed_at (programmed_at xs at low) (at + 1) high

-- a cycle whose data has no high byte
abbrev pub narrow : Cycle → Cycle
narrow c = record { kind = c.kind; pins = c.pins; oe = c.oe; address = c.address; «data» = c.data % 256 }
