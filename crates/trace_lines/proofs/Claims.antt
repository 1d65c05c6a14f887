-- What is claimed of the lines of a trace, in one place.
use mathlib.Core.Path.{◌≡◌}
use mathlib.Core.Bool.{true}
use mathlib.Core.List.{List}
use mathlib.Core.Logic.{◌↔◌}
use Prim.Native.Nat.{ℕ, ◌<◌}
use lib.ListN.{length, get_or}
use Rattle.model_types.specs.declared.Cycle.{Cycle}
use Rattle.std.specs.Prelude.{Some, None}
use Rattle.trace_lines.specs.Lines.{Place, is_at, fits, is_line, cycle_stated, read_line, line_of, Fits}
use Rattle.trace_lines.proofs.Places as places
use Rattle.trace_lines.proofs.Forms as forms

-- Exactly the lines of the documented form are read: a list is read as a cycle exactly where the cycle fits a line and the
-- list is what is printed of it. (Both halves: what is printed is read back, and what is read prints as itself.)
pub read_exactly : (xs : List ℕ) (c : Cycle) → (read_line xs ≡ Some c) ↔ (Fits c × (line_of c ≡ xs))
read_exactly = forms.read_exactly

-- Each is read in one way: two cycles that fit and print alike are one.
pub read_once : (c d : Cycle) → Fits c → Fits d → line_of c ≡ line_of d → c ≡ d
read_once = forms.read_once

-- What is not read is no line: no cycle that fits prints as it.
pub not_read : (xs : List ℕ) → (read_line xs ≡ None) ↔ ((c : Cycle) → Fits c → line_of c ≡ xs → ⊥)
not_read = forms.not_read

-- The test and the reader agree, and a line has 20 bytes.
pub line_read : (xs : List ℕ) → is_line xs ≡ true → read_line xs ≡ Some (cycle_stated xs)
line_read = forms.line_read

pub line_length : (xs : List ℕ) → is_line xs ≡ true → length xs ≡ 20
line_length = forms.line_length

-- Whatever the form: a list is of a form exactly where it has the form's length and at each place what the place asks for. (The
-- place d is only what stands past a form's end.)
pub form_exactly : (d : Place) (ps : List Place) (xs : List ℕ)
    → (fits ps xs ≡ true) ↔ ((length xs ≡ length ps) × ((i : ℕ) → i < length ps → is_at (get_or ps i d) (get_or xs i 0) ≡ true))
form_exactly = places.form_exactly
