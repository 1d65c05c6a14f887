-- Which texts are numbers, and which are tables, told without the reader.
use Rattle.std.specs.Prelude.{◌≡◌, Bool, true, ◌&&◌, List, [], ◌∷◌, ◌++◌, ℕ, ◌+◌, ◌*◌, ◌<◌, leb, length, if◌then◌else◌}
use Rattle.text.specs.Digits.{is_digit, digit_of}

-- digits, and nothing else
abbrev pub all_digits : List ℕ → Bool
all_digits [] = true
all_digits (b ∷ bs) = is_digit b && all_digits bs

-- what they count, behind digits that count n
abbrev pub counted_from : ℕ → List ℕ → ℕ
counted_from n [] = n
counted_from n (b ∷ bs) = counted_from (10 * n + digit_of b) bs

-- a number: a minus or none, then one digit or more, that count less than 1,000,000,000
pub record NumberForm (text : List ℕ) : Type 0 where
  pub minus : Bool
  pub digits : List ℕ
  pub is : text ≡ (if minus then 45 ∷ digits else digits)
  pub some : 0 < length digits
  pub all : all_digits digits ≡ true
  pub few : counted_from 0 digits < 1000000000

-- tenths that 16 bits hold: at most 32,767, with a minus 32,768
abbrev pub tenths_hold : Bool → ℕ → Bool
tenths_hold minus n = if minus then leb n 32768 else leb n 32767

-- the text of a table from knot k up to knot n: for each knot a number, a space, tenths that 16 bits hold, and a newline
pub data TableForm : List ℕ → ℕ → ℕ → Type 0 where
  done : (n : ℕ) → TableForm [] n n
  knot : (volts tenths rest : List ℕ) (k n : ℕ) → NumberForm volts → (t : NumberForm tenths)
      → tenths_hold t.minus (counted_from 0 t.digits) ≡ true
      → TableForm rest (k + 1) n
      → TableForm (volts ++ (32 ∷ (tenths ++ (10 ∷ rest)))) k n
