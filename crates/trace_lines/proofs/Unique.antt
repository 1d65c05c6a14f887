-- Two results that a promise of this crate allows are equal, and so is what it leaves in each thing lent.
use mathlib.Core.Path.{◌≡◌}
use mathlib.Core.Bool.{Bool}
use mathlib.Core.List.{List}
use Prim.Native.Nat.{ℕ}
use Rattle.common.specs.Choice.{Unique}
use Rattle.common.proofs.Choice.{only}
use Rattle.model_types.specs.declared.Cycle.{Cycle}
use Rattle.std.specs.Prelude.{Option}
use Rattle.trace_lines.specs.Lines.{is_line, cycle_stated, read_line, told_in}

pub is_line_unique : (xs : List ℕ) → Unique (λ (r : Bool). r ≡ is_line xs)
is_line_unique xs = only (is_line xs)

pub cycle_in_unique : (xs : List ℕ) → Unique (λ (r : Cycle). r ≡ cycle_stated xs)
cycle_in_unique xs = only (cycle_stated xs)

pub read_line_unique : (xs : List ℕ) → Unique (λ (r : Option Cycle). r ≡ read_line xs)
read_line_unique xs = only (read_line xs)

pub read_line_told_unique : (xs : List ℕ) → Unique (λ (told : List Cycle). told ≡ told_in xs)
read_line_told_unique xs = only (told_in xs)
