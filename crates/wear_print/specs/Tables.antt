-- The report on wear as a table in text: a header, and a line for each of bench T's four blocks; and the line of a
-- trace that is not in it.
use Rattle.std.specs.Prelude.{List, [], ◌∷◌, ◌++◌, ℕ, zero, suc, ◌/◌, ltb, length, drop, if◌then◌else◌}
use Rattle.text.specs.Digits.{spelled}
use Rattle.wear.specs.declared.Tally.{Tally}
use Rattle.wear.specs.declared.Report.{Report}

-- how many digits a number has, k and one at most
unfoldable pub width_from : ℕ → ℕ → ℕ
width_from zero n = 1
width_from (suc k) n = if ltb n 10 then 1 else suc (width_from k (n / 10))

-- a number below 2 to the 64 has 20 at most
abbrev pub width_of : ℕ → ℕ
width_of n = width_from 19 n

-- a space and a number in decimal, without zeros in front
unfoldable pub field_text : ℕ → List ℕ
field_text n = 32 ∷ spelled 10 (width_of n) n []

-- a block's line: its number, total, largest, smallest, passed, and a newline
unfoldable pub row_text : ℕ → Tally → List ℕ
row_text k t =
    ((((field_text k ++ field_text t.total) ++ field_text t.largest) ++ field_text t.smallest) ++ field_text t.passed) ++ (10 ∷ [])

-- ' block total largest smallest passed', and a newline
abbrev pub head_text : List ℕ
head_text =
    32 ∷ 98 ∷ 108 ∷ 111 ∷ 99 ∷ 107 ∷ 32 ∷ 116 ∷ 111 ∷ 116 ∷ 97 ∷ 108 ∷ 32 ∷ 108 ∷ 97 ∷ 114 ∷ 103 ∷ 101 ∷ 115 ∷ 116 ∷ 32 ∷ 115 ∷ 109 ∷ 97
    ∷ 108 ∷ 108 ∷ 101 ∷ 115 ∷ 116 ∷ 32 ∷ 112 ∷ 97 ∷ 115 ∷ 115 ∷ 101 ∷ 100 ∷ 10 ∷ []

-- the table
unfoldable pub table_text : Report → List ℕ
table_text r = (((head_text ++ row_text 0 r.block0) ++ row_text 1 r.block1) ++ row_text 2 r.block2) ++ row_text 3 r.block3

-- a sign, two numbers, each behind a space, and a newline
unfoldable pub line_text : ℕ → ℕ → ℕ → List ℕ
line_text sign a b = (((sign ∷ []) ++ field_text a) ++ field_text b) ++ (10 ∷ [])

-- what is left of a slice, and how many bytes are the table's: nothing is written where there is no room for 512 bytes, which is more than
-- any takes
unfoldable pub laid_in : List ℕ → List ℕ → List ℕ
laid_in out text = if ltb (length out) 512 then out else text ++ drop (length text) out

-- how many bytes are the table's
unfoldable pub count_in : List ℕ → List ℕ → ℕ
count_in out text = if ltb (length out) 512 then 0 else length text
