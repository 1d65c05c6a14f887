-- The lines of a recording: their form, the record that one states, and how a record is printed.
use Rattle.std.specs.Prelude.{◌≡◌, Bool, true, false, not, ◌||◌, List, [], ◌∷◌, ◌++◌}
use Rattle.std.specs.Prelude.{ℕ, ◌/◌, ◌%◌, ◌<◌, eqb, get_or, take, if◌then◌else◌, Option, Some, None}
use Rattle.recording.specs.declared.Noted.{Noted}
use Rattle.trace_lines.specs.Lines.{Place, a_digit, a_hex, exactly, fits, space, newline, line_form, two_hex, five_digits, cycle_stated}
use Rattle.trace_lines.specs.Lines.{decimal_digit, line_of, Fits}
use Rattle.text.specs.Digits.{digit_letter}

-- a dash
abbrev pub dash : Place
dash = exactly 45

-- the cycle: a trace line without its newline
abbrev pub cycle_form : List Place
cycle_form = take 19 line_form

-- the answer seen, behind a space: `D`, a space and two hexadecimal digits; or `N`, a space and two dashes
abbrev pub answer_form : Bool → List Place
answer_form true = space ∷ exactly 68 ∷ space ∷ a_hex ∷ a_hex ∷ []
answer_form false = space ∷ exactly 78 ∷ space ∷ dash ∷ dash ∷ []

-- the busy count, behind a space: five digits, or five dashes where none is told; then the newline
abbrev pub count_form : Bool → List Place
count_form true = space ∷ a_digit ∷ a_digit ∷ a_digit ∷ a_digit ∷ a_digit ∷ newline ∷ []
count_form false = space ∷ dash ∷ dash ∷ dash ∷ dash ∷ dash ∷ newline ∷ []

-- a record line's form, by whether data was seen and whether a count is told
abbrev pub record_form : Bool → Bool → List Place
record_form seen told = cycle_form ++ (answer_form seen ++ count_form told)

-- a line of a recording: a list of one of the four forms
unfoldable pub is_record : List ℕ → Bool
is_record xs =
    (fits (record_form true true) xs || fits (record_form true false) xs)
    || (fits (record_form false true) xs || fits (record_form false false) xs)

-- the answer that a line states
unfoldable pub heard_stated : List ℕ → Option ℕ
heard_stated xs = if eqb (get_or xs 20 0) 68 then Some (two_hex (get_or xs 22 0) (get_or xs 23 0)) else None

-- the busy count that a line states, 0 where none is told
unfoldable pub count_stated : List ℕ → ℕ
count_stated xs =
    if eqb (get_or xs 25 0) 45 then 0 else five_digits (get_or xs 25 0) (get_or xs 26 0) (get_or xs 27 0) (get_or xs 28 0) (get_or xs 29 0)

-- the record that a line states, read off its places
unfoldable pub record_stated : List ℕ → Noted
record_stated xs = record { cycle = cycle_stated xs; heard = heard_stated xs; busy = count_stated xs }

-- an answer seen, printed
abbrev pub answer_text : Option ℕ → List ℕ
answer_text (Some w) = 32 ∷ 68 ∷ 32 ∷ digit_letter (w / 16 % 16) ∷ digit_letter (w % 16) ∷ []
answer_text None = 32 ∷ 78 ∷ 32 ∷ 45 ∷ 45 ∷ []

-- a count printed, told or not
abbrev pub count_text : Bool → ℕ → List ℕ
count_text true n =
    32 ∷ decimal_digit (n / 10000) ∷ decimal_digit (n / 1000) ∷ decimal_digit (n / 100) ∷ decimal_digit (n / 10) ∷ decimal_digit n ∷ 10 ∷ []
count_text false n = 32 ∷ 45 ∷ 45 ∷ 45 ∷ 45 ∷ 45 ∷ 10 ∷ []

-- the line that states a record, with its count told or not
abbrev pub record_line : Bool → Noted → List ℕ
record_line told r = take 19 (line_of r.cycle) ++ (answer_text r.heard ++ count_text told r.busy)

-- the line of a record: a count of 0 is not told
abbrev pub record_line_of : Noted → List ℕ
record_line_of r = record_line (not (eqb r.busy 0)) r

-- an answer that fits a line: data is a byte
abbrev pub HeardFits : Option ℕ → Type 0
HeardFits (Some w) = w < 256
HeardFits None = Unit {0}

-- a count that fits: five digits, and 0 where it is not told
abbrev pub CountFits : Bool → ℕ → Type 0
CountFits true n = n < 100000
CountFits false n = n ≡ 0

-- a record that fits a line
abbrev pub RecordFits : Bool → Noted → Type 0
RecordFits told r = Fits r.cycle × HeardFits r.heard × CountFits told r.busy

-- a list is the line of a record that fits, its count told or not
abbrev pub Prints : Bool → Noted → List ℕ → Type 0
Prints told r xs = RecordFits told r × (record_line told r ≡ xs)
