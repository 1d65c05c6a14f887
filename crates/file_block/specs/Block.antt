-- One block of a load file: what is wrong with it.
use Rattle.std.specs.Prelude.{List, [], ◌∷◌, Bool, true, false, not, ◌||◌, ℕ, ◌+◌, ◌-◌, get_or, take, drop, length, eqb, ltb, if◌then◌else◌}
use Rattle.common.specs.Numbers.{Row, row, given}
use Rattle.file_check.specs.Check.{is_blank, is_damaged, all_are, pair}

-- the eight letters, B E J K N R S T (R-number-32)
abbrev pub letters : List ℕ
letters = 66 ∷ 69 ∷ 74 ∷ 75 ∷ 78 ∷ 82 ∷ 83 ∷ 84 ∷ []

-- x stands in the list
abbrev pub within : ℕ → List ℕ → Bool
within x [] = false
within x (y ∷ ys) = if eqb x y then true else within x ys

-- x is one of the eight letters
unfoldable pub is_letter : ℕ → Bool
is_letter x = within x letters

-- the bytes used, as a block tells them in bytes 3 and 4 (R-file-1)
abbrev pub used_of : List ℕ → ℕ
used_of b = pair (get_or b 3 0) (get_or b 4 0)

-- the bytes of a list from place a up to place e
abbrev pub piece : ℕ → ℕ → List ℕ → List ℕ
piece a e xs = take (e - a) (drop a xs)

-- 32: the letter is none of the eight, or not the first block's (R-number-32)
unfoldable pub letter_wrong : ℕ → List ℕ → Bool
letter_wrong first b = not (is_letter (get_or b 0 0)) || not (eqb (get_or b 0 0) first)

-- 33: the number is not the block's place, or the count is not the file's (R-number-33)
unfoldable pub place_wrong : ℕ → ℕ → List ℕ → Bool
place_wrong i n b = not (eqb (get_or b 1 0) i) || not (eqb (get_or b 2 0) n)

-- 34, the used count: the last block uses 1 to 505, every other exactly 505 (R-number-34)
unfoldable pub used_wrong : ℕ → ℕ → List ℕ → Bool
used_wrong i n b = if eqb (i + 1) n then eqb (used_of b) 0 || ltb 505 (used_of b) else not (eqb (used_of b) 505)

-- 34, the padding: some byte from the used ones up to byte 509 is not FFH (R-number-34)
unfoldable pub padding_wrong : List ℕ → Bool
padding_wrong b = not (all_are 255 (piece (5 + used_of b) 510 b))

-- the refusals of one block as block i of n, in their order, and those that are asked after it (R-order-6)
abbrev pub block_rows : ℕ → ℕ → ℕ → List ℕ → List Row → List Row
block_rows first i n b after =
    row 38 (is_blank b)
    ∷ row 31 (is_damaged b)
    ∷ row 32 (letter_wrong first b)
    ∷ row 33 (place_wrong i n b)
    ∷ row 34 (used_wrong i n b || padding_wrong b)
    ∷ after

-- the refusals of a slice as block i of n: 30 where it is not 512 bytes long, then those of the block (R-number-30)
abbrev pub unsound_rows : ℕ → ℕ → ℕ → List ℕ → List Row
unsound_rows first i n b = row 30 (not (eqb (length b) 512)) ∷ block_rows first i n b []

-- the first refusal of a slice as block i of n, or 0
unfoldable pub unsound_number : ℕ → ℕ → ℕ → List ℕ → ℕ
unsound_number first i n b = given (unsound_rows first i n b)
