-- Numbers read off text, and where a row ends.
use Rattle.std.specs.Prelude.{List, [], ◌∷◌, ℕ, suc, ◌+◌, ◌*◌, ◌%◌, eqb, get_or, take, drop, fold, if◌then◌else◌}
use Rattle.text.specs.Digits.{is_hex, hex_of}
use Rattle.vectors_text.specs.declared.Group.{Group}

-- what a digit is worth, 0 for any other letter
unfoldable pub digit_read : ℕ → ℕ
digit_read x = if is_hex x then hex_of x else 0

-- one digit more of a number in a base, modulo 2 to the 32
abbrev pub digit_more : ℕ → ℕ → ℕ → ℕ
digit_more base v x = (base * v + digit_read x) % 4294967296

-- the number that letters spell in a base
unfoldable pub number_read : ℕ → List ℕ → ℕ
number_read base xs = fold (digit_more base) 0 xs

-- so many letters from a place on, as many as there are
abbrev pub field_of : List ℕ → ℕ → ℕ → List ℕ
field_of xs at n = take n (drop at xs)

-- the bytes of the first row, its newline among them
abbrev pub row_of : List ℕ → ℕ
row_of [] = 0
row_of (x ∷ xs) = if eqb x 10 then 1 else suc (row_of xs)

-- where the row after the one at a place begins
unfoldable pub next_row : List ℕ → ℕ → ℕ
next_row text at = at + row_of (drop at text)

-- the group that a row names: the letters at places 2 to 5
unfoldable pub group_at : List ℕ → Group
group_at row = record { a = get_or row 2 0; b = get_or row 3 0; c = get_or row 4 0; d = get_or row 5 0 }

-- the letters of a group
abbrev pub letters_of : Group → List ℕ
letters_of g = g.a ∷ g.b ∷ g.c ∷ g.d ∷ []
