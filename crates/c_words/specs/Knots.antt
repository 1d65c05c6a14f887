-- A knot of a table's payload as numbers, each way: reading_table says what six bytes mean, reading_text which they are.
use Rattle.std.specs.Prelude.{Bool, ◌&&◌, List, ℕ, ◌-◌, ◌*◌, ◌/◌, eqb, leb, ltb, ℤ, pos, negsuc, length, if◌then◌else◌}
use Rattle.std.specs.Int.Signed.{le_z}
use Rattle.common.specs.Lists.{overlaid}
use Rattle.reading_table.specs.Table.{volts_of, tenths_of, in_range}
use Rattle.reading_text.specs.Tables.{six_of}
use Rattle.c_words.specs.declared.KnotNumbers.{KnotNumbers}

-- 1 where so many bytes have a knot at a place, else 0
unfoldable pub there_of : ℕ → ℕ → ℕ
there_of place n = if ltb place (n / 6) then 1 else 0

-- the knot at a place of a payload; all 0 where there is none
abbrev pub knot_of : ℕ → List ℕ → KnotNumbers
knot_of place p = record { microvolts = volts_of p place; tenths = tenths_of p place; there = there_of place (length p) }

-- tenths of a degree that 16 bits hold, -32,768 to 32,767 (negsuc n is -1 - n)
unfoldable pub tenths_fit : ℤ → Bool
tenths_fit t = le_z (negsuc 32767) t && le_z t (pos 32767)

-- why a knot does not go into a place of so many bytes: 41, then 255 for its tenths, which have no number of their own, then 37; else 0
unfoldable pub pack_number : ℕ → ℤ → ℤ → ℕ → ℕ
pack_number place v t n = if in_range v then (if tenths_fit t then (if ltb place (n / 6) then 0 else 37) else 255) else 41

-- a signed number's 32 bits: -1 is all ones
abbrev pub bits_of : ℤ → ℕ
bits_of (pos n) = n
bits_of (negsuc n) = 4294967295 - n

-- the payload with the knot in its place, or as it was; of the tenths' bits the six bytes have the low 16
unfoldable pub pack_left : ℕ → ℤ → ℤ → List ℕ → List ℕ
pack_left place v t p = if eqb (pack_number place v t (length p)) 0 then overlaid p (6 * place) (six_of (bits_of v) (bits_of t)) else p
