-- A payload as a table of knots, and its refusals 40 and 41.
use Rattle.std.specs.Prelude.{Bool, true, not, ◌&&◌, ◌||◌, List, [], ◌∷◌, ℕ, zero, suc, ◌+◌, ◌-◌, ◌*◌, ◌/◌, ◌%◌, ltb, eqb, ℤ, pos}
use Rattle.std.specs.Prelude.{negsuc, get_or, length, if◌then◌else◌}
use Rattle.std.specs.Int.Signed.{lt_z, le_z}
use Rattle.common.specs.Numbers.{Row, row, given}
use Rattle.file_codec.specs.File.{limit}

-- bytes as one number, high byte first
abbrev pub word32 : ℕ → ℕ → ℕ → ℕ → ℕ
word32 a b c d = ((a * 256 + b) * 256 + c) * 256 + d

-- two bytes as one number, high byte first
abbrev pub word16 : ℕ → ℕ → ℕ
word16 a b = a * 256 + b

-- 32 or 16 bits as a signed number: from the middle on it is negative, and all ones are -1
unfoldable pub signed32 : ℕ → ℤ
signed32 u = if ltb u 2147483648 then pos u else negsuc (4294967295 - u)

-- 16 bits as a signed number
unfoldable pub signed16 : ℕ → ℤ
signed16 u = if ltb u 32768 then pos u else negsuc (65535 - u)

-- the knots of a payload, six bytes each (R-reading-1)
abbrev pub knots : List ℕ → ℕ
knots p = length p / 6

-- the most knots that a file can hold: its payload is at most 505 bytes for each block of the limit (R-reading-1)
abbrev pub most_knots : ℕ
most_knots = 505 * limit / 6

-- knot i's microvolts, bytes 0 to 3 of the six; 0 past the last knot (R-reading-1)
unfoldable pub volts_of : List ℕ → ℕ → ℤ
volts_of p i =
    if ltb i (knots p) then signed32 (word32 (get_or p (6 * i) 0) (get_or p (6 * i + 1) 0)
    (get_or p (6 * i + 2) 0) (get_or p (6 * i + 3) 0))
    else pos 0

-- knot i's tenths of a degree, bytes 4 and 5; 0 past the last knot (R-reading-1)
unfoldable pub tenths_of : List ℕ → ℕ → ℤ
tenths_of p i = if ltb i (knots p) then signed16 (word16 (get_or p (6 * i + 4) 0) (get_or p (6 * i + 5) 0)) else pos 0

-- 40: the payload is no multiple of six, or has too few knots (R-number-40)
unfoldable pub shape_wrong : List ℕ → Bool
shape_wrong p = not (eqb (length p % 6) 0) || ltb (knots p) 2

-- -10,000 to 80,000 (negsuc n is -1 - n) (R-reading-1)
unfoldable pub in_range : ℤ → Bool
in_range v = le_z (negsuc 9999) v && le_z v (pos 80000)

-- knot i's microvolts are in range and, but for the first knot, above those of the knot before (R-number-41)
unfoldable pub good_at : List ℕ → ℕ → Bool
good_at p i = if eqb i 0 then in_range (volts_of p i) else (in_range (volts_of p i) && lt_z (volts_of p (i - 1)) (volts_of p i))

-- knots i and j have microvolts in range, and those of j are above those of i
unfoldable pub rises_to : List ℕ → ℕ → ℕ → Bool
rises_to p i j = in_range (volts_of p i) && (in_range (volts_of p j) && lt_z (volts_of p i) (volts_of p j))

-- the next k knots from knot i on are good
unfoldable pub rising_from : ℕ → ℕ → List ℕ → Bool
rising_from zero i p = true
rising_from (suc k) i p = good_at p i && rising_from k (i + 1) p

-- all knots are good
unfoldable pub rising_of : List ℕ → Bool
unfolding rising_from
rising_of p = rising_from (knots p) 0 p

-- the refusals of a table: 40 by the whole payload, then 41 (R-reading-3)
abbrev pub table_rows : List ℕ → List Row
table_rows p = row 40 (shape_wrong p) ∷ row 41 (not (rising_of p)) ∷ []

-- a table's number, 0 where nothing is refused
unfoldable pub table_number : List ℕ → ℕ
table_number p = given (table_rows p)
