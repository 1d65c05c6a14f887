-- A table as text: a line for each knot, its microvolts, a space, its tenths of a degree, a newline.
use Rattle.std.specs.Prelude.{Bool, true, false, not, ◌||◌, List, [], ◌∷◌, ℕ, ◌+◌, ◌-◌, ◌*◌, ◌/◌, ◌%◌, eqb, leb, length, if◌then◌else◌}
use Rattle.std.specs.Prelude.{Result, Ok, Err}
use Rattle.common.specs.Lists.{overlaid}
use Rattle.reading_text.specs.declared.Number.{Number}
use Rattle.reading_text.specs.declared.Scan.{Scan}
use Rattle.reading_text.specs.declared.WrongLine.{WrongLine}
use Rattle.reading_text.specs.Numbers.{number_start, fed, is_number}

-- a number's bits, of as many as there are below top
unfoldable pub bits_of : Number → ℕ → ℕ
bits_of n top = if n.minus then (top - n.size % top) % top else n.size % top

-- the six bytes of a knot, high byte first
abbrev pub six_of : ℕ → ℕ → List ℕ
six_of volts tenths =
    volts / 16777216 % 256 ∷ volts / 65536 % 256 ∷ volts / 256 % 256 ∷ volts % 256 ∷ tenths / 256 % 256 ∷ tenths % 256 ∷ []

-- a payload with knot k in its place, where there is room for it
unfoldable pub with_knot : List ℕ → ℕ → Number → Number → List ℕ
with_knot out k volts tenths = if leb (length out / 6) k then out
    else overlaid out (6 * k) (six_of (bits_of volts 4294967296) (bits_of tenths 65536))

-- tenths that 16 bits hold: -32,768 to 32,767
unfoldable pub fits_tenths : Number → Bool
fits_tenths n = if n.minus then leb n.size 32768 else leb n.size 32767

-- at the end of a line: no second number, one that is none or too large, or no room for another knot
unfoldable pub line_wrong : Scan → ℕ → Bool
line_wrong s room = ((not s.second || not (is_number s.number)) || not (fits_tenths s.number)) || leb (room / 6) s.knots

-- at a space: the second number already, or a first that is none
unfoldable pub gap_wrong : Scan → Bool
gap_wrong s = s.second || not (is_number s.number)

-- the scan at its start, stopped, at the second number, at the next line, and at the next letter of a number
abbrev pub scan_start : Scan
scan_start = record { number = number_start; volts = number_start; second = false; wrong = false; knots = 0 }

-- the scan stopped: something is wrong
abbrev pub stopped_scan : Scan → Scan
stopped_scan s = record { number = s.number; volts = s.volts; second = s.second; wrong = true; knots = s.knots }

-- the scan at the second number of its line
abbrev pub next_number : Scan → Scan
next_number s = record { number = number_start; volts = s.number; second = true; wrong = s.wrong; knots = s.knots }

-- the scan at the next line, with one knot more
abbrev pub next_line : Scan → Scan
next_line s = record { number = number_start; volts = number_start; second = false; wrong = s.wrong; knots = s.knots + 1 }

-- the scan after one more letter of a number
abbrev pub next_letter : Scan → ℕ → Scan
next_letter s b = record { number = fed s.number b; volts = s.volts; second = s.second; wrong = s.wrong; knots = s.knots }

-- a space, and any letter that does not end its line
unfoldable pub at_gap : Scan → Scan
at_gap s = if gap_wrong s then stopped_scan s else next_number s

-- a letter that does not end its line: a space, or a letter of a number
unfoldable pub within_line : Scan → ℕ → Scan
within_line s b = if eqb b 32 then at_gap s else next_letter s b

-- a scan with the payload that it has made so far
pub record Scanned : Type 0 where
  pub scan : Scan
  pub payload : List ℕ

-- a newline: the knot of the line goes into the payload, or the line is wrong
unfoldable pub end_line : Scan → List ℕ → Scanned
end_line s out =
    if line_wrong s (length out) then record { scan = stopped_scan s; payload = out }
    else record { scan = next_line s; payload = with_knot out s.knots s.volts s.number }

-- one letter more; nothing more after a wrong line
unfoldable pub scan_more : Scan → ℕ → List ℕ → Scanned
scan_more s b out =
    if s.wrong then record { scan = s; payload = out }
    else if eqb b 10 then end_line s out
    else record { scan = within_line s b; payload = out }

-- all letters of a text, one after the other
abbrev pub scan_all : List ℕ → Scanned → Scanned
scan_all [] q = q
scan_all (b ∷ bs) q = scan_all bs (scan_more q.scan b q.payload)

-- a whole text into the front of a payload
unfoldable pub table_scanned : List ℕ → List ℕ → Scanned
table_scanned text out = scan_all text (record { scan = scan_start; payload = out })

-- a line that was begun and not ended
unfoldable pub is_begun : Scan → Bool
is_begun s = ((s.second || s.number.minus) || s.number.some) || s.number.none

-- an answer by its cases: the number of the first wrong line, 0 where none is wrong, and the knots told
abbrev pub table_told : Result ℕ WrongLine → ℕ × List ℕ
table_told (Ok n) = (0, n ∷ [])
table_told (Err e) = (e.line, [])

-- what a scan that came to the end of its text tells: the line, from 1, that is wrong or was begun and not ended; or the knots
unfoldable pub scan_told : Scan → ℕ × List ℕ
scan_told s = if s.wrong || is_begun s then (s.knots + 1, []) else (0, s.knots ∷ [])

-- what a text says of a table: its knots, or the first line that is none, counted from 1
unfoldable pub table_read : Scan → Result ℕ WrongLine
table_read s =
    if s.wrong then Err (record { line = s.knots + 1 })
    else if is_begun s then Err (record { line = s.knots + 1 })
    else Ok s.knots
