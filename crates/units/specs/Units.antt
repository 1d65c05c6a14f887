-- Units of lent bytes, by the width (false: byte mode, true: word mode). A unit is what one cycle carries: a byte, or in word mode a
-- word, its low byte first.
use Rattle.std.specs.Prelude.{Bool, true, false, ◌&&◌, List, [], ◌∷◌, ℕ, ◌+◌, ◌*◌, ◌/◌, ◌%◌, length, take, replicate, eqb, leb}
use Rattle.std.specs.Prelude.{if◌then◌else◌}
use Rattle.common.specs.Lists.{overlaid}

-- a word by its two bytes
abbrev pub word_of : ℕ → ℕ → ℕ
word_of low high = high * 256 + low

-- the words that bytes make; an odd last byte is in no word (R-part-6)
abbrev pub pairs : List ℕ → List ℕ
pairs [] = []
pairs (x ∷ []) = []
pairs (x ∷ y ∷ zs) = word_of x y ∷ pairs zs

-- the bytes that words make, low byte first
abbrev pub halves : List ℕ → List ℕ
halves [] = []
halves (v ∷ vs) = (v % 256) ∷ (v / 256) ∷ halves vs

-- the units of lent bytes
abbrev pub units : Bool → List ℕ → List ℕ
units false xs = xs
units true xs = pairs xs

-- the byte that is in no unit: in word mode the last of an odd number
abbrev pub unpaired : List ℕ → List ℕ
unpaired [] = []
unpaired (x ∷ []) = x ∷ []
unpaired (x ∷ y ∷ zs) = unpaired zs

-- .. in either width: in byte mode there is none
abbrev pub spare : Bool → List ℕ → List ℕ
spare false xs = []
spare true xs = unpaired xs

-- units as bytes again
abbrev pub back : Bool → List ℕ → List ℕ
back false us = us
back true us = halves us

-- so many bytes in units, and so many units in bytes
abbrev pub units_in : Bool → ℕ → ℕ
units_in false n = n
units_in true n = n / 2

-- so many units in bytes
abbrev pub bytes_in : Bool → ℕ → ℕ
bytes_in false n = n
bytes_in true n = 2 * n

-- so many bytes make no whole number of words
abbrev pub torn : Bool → ℕ → Bool
torn w n = w && eqb (n % 2) 1

-- the units of lent bytes that must be a whole number of them: an odd number of bytes makes none in word mode (R-part-7)
unfoldable pub lent : Bool → List ℕ → List ℕ
lent w xs = if torn w (length xs) then [] else units w xs

-- how many these are
unfoldable pub lent_in : Bool → ℕ → ℕ
lent_in w n = if torn w n then 0 else units_in w n

-- what a unit has of 16 bits on the bus: in byte mode the high byte is not looked at
abbrev pub carried : Bool → ℕ → ℕ
carried false v = v % 256
carried true v = v

-- all ones of a unit
abbrev pub top : Bool → ℕ
top false = 0xFF
top true = 0xFFFF

-- n units from unit a on become all ones, where they are there; else nothing does
unfoldable pub erased_in : Bool → ℕ → ℕ → List ℕ → List ℕ
erased_in w a n us = if leb (a + n) (length us) then overlaid us a (replicate n (top w)) else us

-- n units from unit a on become the first n of rs, where both are there; else nothing does
unfoldable pub left_in : ℕ → ℕ → List ℕ → List ℕ → List ℕ
left_in a n rs us = if leb (a + n) (length us) && leb n (length rs) then overlaid us a (take n rs) else us
