-- What is claimed of tables as text.
use mathlib.Core.Path.{◌≡◌}
use mathlib.Core.Bool.{true}
use mathlib.Core.List.{List, ◌++◌}
use mathlib.Core.Logic.{◌↔◌}
use Prim.Native.Nat.{ℕ, ◌/◌, ◌≤◌}
use lib.ListN.{length, drop}
use lib.IntN.{ℤ}
use lib.Ieee.Positive.{num, den}
use Rattle.common.specs.Lists.{Bytes}
use Rattle.reading_table.specs.Table.{knots}
use Rattle.std.specs.Prelude.{Ok}
use Rattle.reading_text.specs.Numbers.{number_fed, is_number}
use Rattle.reading_text.specs.Tables.{table_scanned, table_read}
use Rattle.reading_claims.specs.Tables.{Table}
use Rattle.reading_claims.specs.Answers.{degrees, answer_from}
use Rattle.reading.specs.declared.Reading.{Reading}
use Rattle.reading.specs.declared.ReadingAnswer.TheVariants.{Read}
use Rattle.reading.specs.Readings.{reading_answer}
use Rattle.reading_print.specs.Texts.{tenths_shown, NearestTo}
use Rattle.table_text.specs.Printed.{table_text}
use Rattle.reading_text_claims.specs.Forms.{NumberForm, TableForm}
use Rattle.reading_text_claims.proofs.ReadBack as back
use Rattle.reading_text_claims.proofs.Formed as formed
use Rattle.reading_text_claims.proofs.Taken as taken
use Rattle.reading_text_claims.proofs.Tenths as tenths

-- A table that was printed reads back as the table: each line is a knot, the payload is in front, and what was behind it stays.
pub reads_back : (p out : List ℕ) → Bytes p → Table p → length p ≤ length out
    → (table_read (table_scanned (table_text p) out).scan ≡ Ok (knots p)) × ((table_scanned (table_text p) out).payload ≡ p ++ drop (length p) out)
reads_back = back.read_back

-- A text is a number exactly where it is of the form: a minus or none, then one digit or more that count less than 1,000,000,000.
pub number_exactly : (text : List ℕ) → (is_number (number_fed text) ≡ true) ↔ NumberForm text
number_exactly text = (formed.number_form text, taken.is_number_lem text)

-- A text is taken as a table of n knots exactly where it is n lines of the form and there is room for them.
pub taken_exactly : (text out : List ℕ) (n : ℕ) → (table_read (table_scanned text out).scan ≡ Ok n) ↔ (TableForm text 0 n × (n ≤ length out / 6))
taken_exactly = taken.taken_exactly

-- Every reading is shown by the tenth nearest to it, a half going away from zero: by any payload, and from any file. A temperature is
-- num / den in size.
pub shown_nearest : (p : List ℕ) (x : ℤ) (r : Reading) → reading_answer p x ≡ Read r → NearestTo (tenths_shown (degrees r)) (num (degrees r)) (den (degrees r))
shown_nearest = tenths.reading_shown

pub file_shown_nearest : (f : List ℕ) (letter : ℕ) (room : List ℕ) (x : ℤ) (r : Reading) → answer_from f letter room x ≡ Read r
    → NearestTo (tenths_shown (degrees r)) (num (degrees r)) (den (degrees r))
file_shown_nearest = tenths.file_shown
