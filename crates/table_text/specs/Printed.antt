-- A whole table as text.
use Rattle.std.specs.Prelude.{List, [], ◌++◌, ℕ, zero, suc, ◌+◌}
use Rattle.reading_table.specs.Table.{knots, volts_of, tenths_of}
use Rattle.reading_print.specs.Texts.{knot_text}

-- the lines of so many knots, from knot i on
abbrev pub lines_of : ℕ → ℕ → List ℕ → List ℕ
lines_of zero i p = []
lines_of (suc left) i p = knot_text (volts_of p i) (tenths_of p i) ++ lines_of left (i + 1) p

-- the lines of all knots
abbrev pub table_text : List ℕ → List ℕ
table_text p = lines_of (knots p) 0 p
