-- The status register, bit by bit.
use Rattle.std.specs.Prelude.{Bool, not, ℕ, ◌-◌, ◌/◌, ◌%◌, eqb}
use Rattle.std.specs.Int.Bits.{bit_and, bit_or}

-- SR.7: ready (R-status-1)
abbrev pub SR7 : ℕ
SR7 = 0x80

-- SR.6: an erase is suspended (R-status-1)
abbrev pub SR6 : ℕ
SR6 = 0x40

-- SR.5: erase error (R-status-1)
abbrev pub SR5 : ℕ
SR5 = 0x20

-- SR.4: program error (R-status-1)
abbrev pub SR4 : ℕ
SR4 = 0x10

-- SR.3: VPP was low (R-status-1)
abbrev pub SR3 : ℕ
SR3 = 0x08

-- the status with these bits set
abbrev pub with_bits : ℕ → ℕ → ℕ
with_bits sr bits = bit_or sr bits

-- the status with these bits cleared
abbrev pub without_bits : ℕ → ℕ → ℕ
without_bits sr bits = bit_and sr (0xFF - bits)

-- this bit is set
abbrev pub is_set : ℕ → ℕ → Bool
is_set sr bit = not (eqb (sr / bit % 2) 0)
