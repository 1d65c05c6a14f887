-- Word addresses and byte addresses: neither stands for the other, and this is the one way from one to the other.
use Rattle.std.specs.Prelude.{Bool, true, false, ℕ, ◌+◌, ◌*◌, if◌then◌else◌}
use Rattle.units.specs.declared.WordAddress.{WordAddress}
use Rattle.units.specs.declared.ByteAddress.{ByteAddress}

-- the byte address of a word's low byte, that of A-1 zero (R-part-6)
abbrev pub first_byte : WordAddress → ByteAddress
first_byte w = record { byte = 2 * w.word }

-- the byte address at which a unit begins: in byte mode the unit's own address
abbrev pub byte_of : Bool → ℕ → ℕ
byte_of false a = a
byte_of true a = (first_byte (record { word = a })).byte

-- the byte address of a unit's byte: in word mode that of the low byte, or of the high one, which is the next
abbrev pub byte_at : Bool → ℕ → Bool → ℕ
byte_at false a high = a
byte_at true a high = (first_byte (record { word = a })).byte + (if high then 1 else 0)
