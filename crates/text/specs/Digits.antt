-- Digits, and numbers spelled by them.
use Rattle.std.specs.Prelude.{Bool, ◌&&◌, ◌||◌, List, [], ◌∷◌, ℕ, zero, suc, ◌+◌, ◌/◌, ◌%◌, ltb, leb, if◌then◌else◌}

-- a decimal digit: `0` to `9`
unfoldable pub is_digit : ℕ → Bool
is_digit b = leb 48 b && leb b 57

-- a hexadecimal digit: `0` to `9` or `A` to `F`, capitals only
unfoldable pub is_hex : ℕ → Bool
is_hex b = is_digit b || (leb 65 b && leb b 70)

-- what a decimal digit counts
abbrev pub digit_of : ℕ → ℕ
digit_of b = b % 16

-- what a hexadecimal digit counts: the letters go on from 10
unfoldable pub hex_of : ℕ → ℕ
hex_of b = if ltb b 65 then b % 16 else (b + 9) % 16

-- a number below 16 as one digit: `0` to `9`, then `A` to `F`
unfoldable pub digit_letter : ℕ → ℕ
digit_letter d = if ltb d 10 then 48 + d else 55 + d

-- the last n digits of x in a base, the highest first, and then what follows
abbrev pub spelled : ℕ → ℕ → ℕ → List ℕ → List ℕ
spelled base zero x after = after
spelled base (suc n) x after = spelled base n (x / base) (digit_letter (x % base) ∷ after)

-- the digits of a number below 2 to the 32
unfoldable pub width_of : ℕ → ℕ
width_of n =
    if ltb n 10 then 1
    else if ltb n 100 then 2
    else if ltb n 1000 then 3
    else if ltb n 10000 then 4
    else if ltb n 100000 then 5
    else if ltb n 1000000 then 6
    else if ltb n 10000000 then 7
    else if ltb n 100000000 then 8
    else if ltb n 1000000000 then 9
    else 10

-- a number in decimal, without zeros in front
unfoldable pub decimal_of : ℕ → List ℕ
decimal_of n = spelled 10 (width_of n) n []
