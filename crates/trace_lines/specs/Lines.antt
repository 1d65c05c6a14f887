-- The lines of a trace: their form, the cycle that one states, and how a cycle is printed.
use Rattle.std.specs.Prelude.{◌≡◌, Bool, true, false, ◌&&◌, ◌||◌, List, [], ◌∷◌, ℕ}
use Rattle.std.specs.Prelude.{◌+◌, ◌*◌, ◌/◌, ◌%◌, ◌<◌, eqb, get_or, if◌then◌else◌, Option, None, Some}
use Rattle.text.specs.Digits.{is_digit, is_hex, digit_of, hex_of, digit_letter}
use Rattle.model_types.specs.declared.Kind.{Kind}
use Rattle.model_types.specs.declared.Kind.TheVariants.{Read, Write, Idle}
use Rattle.model_types.specs.declared.Cycle.{Cycle}

-- a kind: R, W or I
unfoldable pub is_kind : ℕ → Bool
is_kind b = (eqb b 82 || eqb b 87) || eqb b 73

-- what one place of a line asks for: a kind, a decimal digit, a hexadecimal digit, or one byte and no other
pub data Place : Type 0 where
  a_kind : Place
  a_digit : Place
  a_hex : Place
  exactly : ℕ → Place

-- whether a byte is what a place asks for
abbrev pub is_at : Place → ℕ → Bool
is_at a_kind b = is_kind b
is_at a_digit b = is_digit b
is_at a_hex b = is_hex b
is_at (exactly x) b = eqb b x

-- whether a list is of a form: as many bytes as places, each what its place asks for
unfoldable pub fits : List Place → List ℕ → Bool
fits [] [] = true
fits [] (x ∷ xs) = false
fits (p ∷ ps) [] = false
fits (p ∷ ps) (x ∷ xs) = is_at p x && fits ps xs

-- a single space
abbrev pub space : Place
space = exactly 32

-- the newline that ends a line
abbrev pub newline : Place
newline = exactly 10

-- a line's form: kind; RP#; OE#; VPP in five digits; the address in four hexadecimal digits; data in two; single spaces, a newline
-- (R-trace-1)
abbrev pub line_form : List Place
line_form =
    a_kind ∷ space
    ∷ a_digit ∷ space
    ∷ a_digit ∷ space
    ∷ a_digit ∷ a_digit ∷ a_digit ∷ a_digit ∷ a_digit ∷ space
    ∷ a_hex ∷ a_hex ∷ a_hex ∷ a_hex ∷ space
    ∷ a_hex ∷ a_hex ∷ newline
    ∷ []

-- a line of a trace: a list of that form
unfoldable pub is_line : List ℕ → Bool
is_line xs = fits line_form xs

-- the kind that a letter names
unfoldable pub kind_of : ℕ → Kind
kind_of b =
    if eqb b 82 then Read
    else if eqb b 87 then Write
    else Idle

-- five decimal digits as a number
abbrev pub five_digits : ℕ → ℕ → ℕ → ℕ → ℕ → ℕ
five_digits a b c d e = (((digit_of a * 10 + digit_of b) * 10 + digit_of c) * 10 + digit_of d) * 10 + digit_of e

-- four hexadecimal digits as a number
abbrev pub four_hex : ℕ → ℕ → ℕ → ℕ → ℕ
four_hex a b c d = ((hex_of a * 16 + hex_of b) * 16 + hex_of c) * 16 + hex_of d

-- two hexadecimal digits as a byte
abbrev pub two_hex : ℕ → ℕ → ℕ
two_hex a b = hex_of a * 16 + hex_of b

-- a cycle put together from its parts; bench T has no WP#, and a line does not state it
abbrev pub cycle_as : Kind → ℕ → ℕ → ℕ → ℕ → ℕ → Cycle
cycle_as k rp oe vpp a b = record { kind = k; pins = record { rp = rp; vpp = vpp; wp = 0 }; oe = oe; address = a; «data» = b }

-- the cycle that a line states, read off its places
unfoldable pub cycle_stated : List ℕ → Cycle
cycle_stated xs =
    cycle_as (kind_of (get_or xs 0 0)) (digit_of (get_or xs 2 0)) (digit_of (get_or xs 4 0))
    (five_digits (get_or xs 6 0) (get_or xs 7 0) (get_or xs 8 0) (get_or xs 9 0) (get_or xs 10 0))
    (four_hex (get_or xs 12 0) (get_or xs 13 0) (get_or xs 14 0) (get_or xs 15 0))
    (two_hex (get_or xs 17 0) (get_or xs 18 0))

-- a line read: its cycle, or no line
unfoldable pub read_line : List ℕ → Option Cycle
read_line xs = if is_line xs then Some (cycle_stated xs) else None

-- a line read by its cases: the cycle stated, or nothing; the page has no number for a line that is none
abbrev pub line_told : Option Cycle → List Cycle
line_told None = []
line_told (Some c) = c ∷ []

-- what a line tells
unfoldable pub told_in : List ℕ → List Cycle
told_in xs = if is_line xs then cycle_stated xs ∷ [] else []

-- the letter of a kind
abbrev pub letter_for : Kind → ℕ
letter_for Read = 82
letter_for Write = 87
letter_for Idle = 73

-- a number's last decimal digit, printed
abbrev pub decimal_digit : ℕ → ℕ
decimal_digit n = 48 + n % 10

-- the line that states a cycle
abbrev pub line_of : Cycle → List ℕ
line_of c =
    letter_for c.kind ∷ 32
    ∷ (48 + c.pins.rp) ∷ 32
    ∷ (48 + c.oe) ∷ 32
    ∷ decimal_digit (c.pins.vpp / 10000) ∷ decimal_digit (c.pins.vpp / 1000) ∷ decimal_digit (c.pins.vpp / 100)
    ∷ decimal_digit (c.pins.vpp / 10) ∷ decimal_digit c.pins.vpp ∷ 32
    ∷ digit_letter (c.address / 4096 % 16) ∷ digit_letter (c.address / 256 % 16) ∷ digit_letter (c.address / 16 % 16)
    ∷ digit_letter (c.address % 16) ∷ 32
    ∷ digit_letter (c.data / 16 % 16) ∷ digit_letter (c.data % 16) ∷ 10
    ∷ []

-- a cycle that fits a line: each number has as many digits as the line has room for, and WP# is 0
abbrev pub Fits : Cycle → Type 0
Fits c = (c.pins.rp < 10) × (c.oe < 10) × (c.pins.vpp < 100000) × (c.address < 65536) × (c.data < 256) × (c.pins.wp ≡ 0)
