-- A number as text: a minus or none, then digits.
use Rattle.std.specs.Prelude.{Bool, true, false, not, ◌&&◌, ◌||◌, List, [], ◌∷◌, ℕ, ◌+◌, ◌-◌, ◌*◌, eqb, leb, ltb, ℤ, pos, negsuc}
use Rattle.std.specs.Prelude.{Option, Some, None, if◌then◌else◌}
use Rattle.text.specs.Digits.{is_digit, digit_of}
use Rattle.reading_text.specs.declared.Number.{Number}

-- no letter yet
abbrev pub number_start : Number
number_start = record { minus = false; some = false; none = false; size = 0 }

-- one digit more; a number that would pass nine digits is none
unfoldable pub fed_digit : Number → ℕ → Number
fed_digit n b =
    if leb 100000000 n.size then record { minus = n.minus; some = true; none = true; size = 0 }
    else record { minus = n.minus; some = true; none = n.none; size = 10 * n.size + digit_of b }

-- a minus: once, and before the first digit
abbrev pub fed_minus : Number → Number
fed_minus n = record { minus = true; some = n.some; none = (n.none || n.minus) || n.some; size = n.size }

-- any other letter makes it none
abbrev pub fed_other : Number → Number
fed_other n = record { minus = n.minus; some = n.some; none = true; size = n.size }

-- one letter more
unfoldable pub fed : Number → ℕ → Number
fed n b = if is_digit b then fed_digit n b else if eqb b 45 then fed_minus n else fed_other n

-- all letters of a text, one after the other
abbrev pub fed_all : Number → List ℕ → Number
fed_all n [] = n
fed_all n (b ∷ bs) = fed_all (fed n b) bs

-- .. from the beginning: the number that a text is
unfoldable pub number_fed : List ℕ → Number
number_fed bs = fed_all number_start bs

-- a digit at least, and nothing wrong
abbrev pub is_number : Number → Bool
is_number n = n.some && not n.none

-- below zero: -0 is not
abbrev pub is_negative : Number → Bool
is_negative n = n.minus && ltb 0 n.size

-- its value (negsuc n is -1 - n)
unfoldable pub value_of : Number → ℤ
value_of n = if is_negative n then negsuc (n.size - 1) else pos n.size

-- an answer by its cases: the value told, none where the text is no number
abbrev pub number_values : Option ℤ → List ℤ
number_values (Some v) = v ∷ []
number_values None = []

-- the values that a text tells
unfoldable pub values_in : List ℕ → List ℤ
values_in bs = if is_number (number_fed bs) then value_of (number_fed bs) ∷ [] else []

-- what a text says of a number
unfoldable pub number_told : List ℕ → Option ℤ
number_told bs = if is_number (number_fed bs) then Some (value_of (number_fed bs)) else None
