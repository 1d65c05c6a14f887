-- Two results that the promise of this crate allows are equal, and so is what it leaves in the slice lent.
use mathlib.Core.Path.{◌≡◌}
use mathlib.Core.List.{List}
use Prim.Native.Nat.{ℕ}
use Rattle.common.specs.Choice.{Unique}
use Rattle.common.proofs.Choice.{only}
use Rattle.wear.specs.declared.Report.{Report}
use Rattle.wear_print.specs.Tables.{table_text, line_text, laid_in, count_in}

pub table_unique : (out : List ℕ) (r : Report) → Unique (λ (n : ℕ). n ≡ count_in out (table_text r))
table_unique out r = only (count_in out (table_text r))

pub table_out_unique : (out : List ℕ) (r : Report) → Unique (λ (left : List ℕ). left ≡ laid_in out (table_text r))
table_out_unique out r = only (laid_in out (table_text r))

pub line_unique : (out : List ℕ) (sign a b : ℕ) → Unique (λ (n : ℕ). n ≡ count_in out (line_text sign a b))
line_unique out sign a b = only (count_in out (line_text sign a b))

pub line_out_unique : (out : List ℕ) (sign a b : ℕ) → Unique (λ (left : List ℕ). left ≡ laid_in out (line_text sign a b))
line_out_unique out sign a b = only (laid_in out (line_text sign a b))
