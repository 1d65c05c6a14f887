-- What is claimed of the lines of a recording, in one place.
use mathlib.Core.Path.{◌≡◌}
use mathlib.Core.Bool.{true, false}
use mathlib.Core.List.{List}
use mathlib.Core.Logic.{◌↔◌, ◌⊎◌}
use Prim.Native.Nat.{ℕ}
use lib.ListN.{length}
use Rattle.recording.specs.declared.Noted.{Noted}
use Rattle.recording_lines.specs.Records.{is_record, record_stated, record_line_of, RecordFits, Prints}
use Rattle.recording_lines.proofs.Forms as forms

-- Exactly the lines of the documented form are read: a list is taken as a record's line exactly where the record fits and the list is what
-- is printed of it, its count told or, where it is 0, not told.
pub record_exactly : (xs : List ℕ) (r : Noted) → ((is_record xs ≡ true) × (record_stated xs ≡ r)) ↔ (Prints true r xs ⊎ Prints false r xs)
record_exactly = forms.record_exactly

-- The line written from a record that fits reads back as that record.
pub record_back : (r : Noted) → RecordFits true r → (is_record (record_line_of r) ≡ true) × (record_stated (record_line_of r) ≡ r)
record_back = forms.record_back

-- A line has 31 bytes.
pub record_length : (xs : List ℕ) → is_record xs ≡ true → length xs ≡ 31
record_length = forms.record_length
