-- Two results that a promise of this crate allows are equal, and so is what it leaves in each thing lent.
use mathlib.Core.Path.{◌≡◌}
use mathlib.Core.List.{List}
use Prim.Native.Nat.{ℕ}
use lib.IntN.{ℤ}
use Rattle.std.specs.Prelude.{Option, Result}
use Rattle.common.specs.Choice.{Unique}
use Rattle.common.proofs.Choice.{only}
use Rattle.reading_text.specs.declared.WrongLine.{WrongLine}
use Rattle.reading_text.specs.Numbers.{number_told, values_in}
use Rattle.reading_text.specs.Tables.{table_read, table_scanned, scan_told}

pub read_number_unique : (text : List ℕ) → Unique (λ (r : Option ℤ). r ≡ number_told text)
read_number_unique text = only (number_told text)

pub read_number_told_unique : (text : List ℕ) → Unique (λ (told : List ℤ). told ≡ values_in text)
read_number_told_unique text = only (values_in text)

pub read_table_unique : (text out : List ℕ) → Unique (λ (r : Result ℕ WrongLine). r ≡ table_read (table_scanned text out).scan)
read_table_unique text out = only (table_read (table_scanned text out).scan)

pub read_table_told_unique : (text out : List ℕ) → Unique (λ (told : ℕ × List ℕ). told ≡ scan_told (table_scanned text out).scan)
read_table_told_unique text out = only (scan_told (table_scanned text out).scan)

pub read_table_left_unique : (text out : List ℕ) → Unique (λ (left : List ℕ). left ≡ (table_scanned text out).payload)
read_table_left_unique text out = only (table_scanned text out).payload
