-- What a trace prints: the answer to a line, and the mark that ends a trace.
use Rattle.std.specs.Prelude.{List, [], ◌∷◌, ℕ, ◌/◌, ◌%◌, eqb, if◌then◌else◌}
use Rattle.model.specs.declared.Seen.{Seen}
use Rattle.model.specs.declared.Seen.TheVariants.{NoData, Data, Refused}
use Rattle.model.specs.declared.Answer.{Answer}
use Rattle.text.specs.Digits.{digit_letter}
use Rattle.trace_lines.specs.Lines.{decimal_digit}

-- D for a byte, N for no data, X for a refusal
abbrev pub sign_of : Seen → ℕ
sign_of NoData = 78
sign_of (Data b) = 68
sign_of (Refused n) = 88

-- the byte in two hexadecimal digits, two dashes, or the refusal in two decimal digits
abbrev pub first_sign : Seen → ℕ
first_sign NoData = 45
first_sign (Data b) = digit_letter (b / 16 % 16)
first_sign (Refused n) = decimal_digit (n / 10)

-- .. its second letter
abbrev pub second_sign : Seen → ℕ
second_sign NoData = 45
second_sign (Data b) = digit_letter (b % 16)
second_sign (Refused n) = decimal_digit n

-- an answer printed: what is seen, then a status register (R-trace-2)
unfoldable pub answer_text : Seen → ℕ → List ℕ
answer_text seen sr =
    sign_of seen ∷ 32 ∷ first_sign seen ∷ second_sign seen ∷ 32 ∷ digit_letter (sr / 16 % 16) ∷ digit_letter (sr % 16) ∷ 10 ∷ []

-- the answer to a line: the status register is the one after the cycle
abbrev pub printed_of : Answer → List ℕ
printed_of a = answer_text a.seen a.state.status

-- the mark of line n: '?', a space and the number in four digits (R-trace-3)
unfoldable pub mark_of : ℕ → List ℕ
mark_of n = 63 ∷ 32 ∷ decimal_digit (n / 1000) ∷ decimal_digit (n / 100) ∷ decimal_digit (n / 10) ∷ decimal_digit n ∷ 10 ∷ []

-- how a trace ends before line n: without a word where no byte is left over, else with the mark (R-trace-3)
unfoldable pub trace_end : ℕ → ℕ → List ℕ
trace_end n left = if eqb left 0 then [] else mark_of n
