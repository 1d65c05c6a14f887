-- The word at the front of a text: which line of a script it begins with.
use Rattle.std.specs.Prelude.{Bool, true, false, List, [], ◌∷◌, ℕ, ◌+◌, ◌*◌, eqb, length, take, get_or, if◌then◌else◌}
use Rattle.text.specs.Digits.{digit_of}
use Rattle.trace_lines.specs.Lines.{Place, a_digit, exactly, fits, space, newline, is_line}
use Rattle.script_lines.specs.declared.Word.{Word}
use Rattle.script_lines.specs.declared.Word.TheVariants.{Ends, Bad, Traced, Opens, Closes}

-- an opening line's form: '(', a space, three digits, a newline
abbrev pub open_form : List Place
open_form = exactly 40 ∷ space ∷ a_digit ∷ a_digit ∷ a_digit ∷ newline ∷ []

-- a closing line's form: ')' and a newline
abbrev pub close_form : List Place
close_form = exactly 41 ∷ newline ∷ []

-- whether a text begins with a trace line, with an opening line, with a closing line
unfoldable pub is_traced : List ℕ → Bool
is_traced text = is_line (take 20 text)

-- a text begins with an opening line
unfoldable pub is_opening : List ℕ → Bool
is_opening text = fits open_form (take 6 text)

-- a text begins with a closing line
unfoldable pub is_closing : List ℕ → Bool
is_closing text = fits close_form (take 2 text)

-- the count that an opening line states
abbrev pub count_stated : List ℕ → ℕ
count_stated text = (digit_of (get_or text 2 0) * 10 + digit_of (get_or text 3 0)) * 10 + digit_of (get_or text 4 0)

-- the word at the front, where so many lines may still come: nothing is left; or a line too many; or one of the three lines, a
-- count of 000 being none; or no line of a script
unfoldable pub word_in : ℕ → List ℕ → Word
word_in left text =
    if eqb (length text) 0 then Ends
    else if eqb left 0 then Bad
    else if is_traced text then Traced
    else if is_closing text then Closes
    else if is_opening text then (if eqb (count_stated text) 0 then Bad else Opens (count_stated text))
    else Bad

-- whether a word is the end of the text, whether it closes a group
abbrev pub is_ends : Word → Bool
is_ends Ends = true
is_ends Bad = false
is_ends Traced = false
is_ends (Opens n) = false
is_ends Closes = false

-- a word closes a group
abbrev pub is_closes : Word → Bool
is_closes Ends = false
is_closes Bad = false
is_closes Traced = false
is_closes (Opens n) = false
is_closes Closes = true
