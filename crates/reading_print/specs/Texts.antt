-- A knot and a temperature as text.
use Rattle.std.specs.Prelude.{ℕ, ◌+◌, ◌*◌, ◌/◌, ◌%◌, ◌<◌, ◌≤◌, Bool, true, false, List, [], ◌∷◌, ◌++◌, ℤ, pos, negsuc, int_lt, nat_lt}
use Rattle.std.specs.Prelude.{unsigned_abs, Float, if◌then◌else◌}
use Rattle.std.specs.Float.{fin, binary64}
use Rattle.std.specs.Float.Ieee.{add, neg, lt, le, to_unsigned}
use Rattle.text.specs.Digits.{decimal_of}

-- with a minus before it where it is negative
unfoldable pub signed_text : Bool → ℕ → List ℕ
signed_text negative n = if negative then 45 ∷ decimal_of n else decimal_of n

-- a signed number
abbrev pub number_text : ℤ → List ℕ
number_text z = signed_text (int_lt z (pos 0)) (unsigned_abs z)

-- a knot's line: microvolts, a space, tenths of a degree, a newline
abbrev pub knot_text : ℤ → ℤ → List ℕ
knot_text volts tenths = ((number_text volts ++ (32 ∷ [])) ++ number_text tenths) ++ (10 ∷ [])

-- a temperature in tenths that is shown with a minus: -0.5 or less
abbrev pub is_under : Float → Bool
is_under t = le t (fin true 1 (negsuc 0))

-- its size: a number between -0.5 and 0 is left as it is, and shown as 0
unfoldable pub size_shown : Float → Float
size_shown t = if is_under t then neg t else t

-- the whole part of a number above -1 and below 2 to the 64, of any other 0
unfoldable pub whole_of : Float → ℕ
whole_of d = if lt (fin true 1 (pos 0)) d then (if lt d (fin false 1 (pos 64)) then to_unsigned 64 d else 0) else 0

-- the whole tenths nearest to a temperature, by the whole part of its double; a half goes up. Past 2 to the 31 it is 0: no table's is
unfoldable pub tenths_shown : Float → ℕ
tenths_shown t = let u = whole_of (add binary64 (size_shown t) (size_shown t)) in if nat_lt u 4294967296 then (u + 1) / 2 else 0

-- n is the whole number nearest to a / c, a half going up: from n - 1/2 to below n + 1/2
abbrev pub NearestTo : ℕ → ℕ → ℕ → Type 0
NearestTo n a c = (2 * n * c ≤ 2 * a + c) × (2 * a < (2 * n + 1) * c)

-- in degrees, with one decimal
abbrev pub temperature_text : Float → List ℕ
temperature_text t = (signed_text (is_under t) (tenths_shown t / 10) ++ (46 ∷ [])) ++ ((48 + tenths_shown t % 10) ∷ [])
