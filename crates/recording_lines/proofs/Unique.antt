-- Two results that a promise of this crate allows are equal.
use mathlib.Core.Path.{◌≡◌}
use mathlib.Core.Bool.{Bool}
use mathlib.Core.List.{List}
use Prim.Native.Nat.{ℕ}
use Rattle.common.specs.Choice.{Unique}
use Rattle.common.proofs.Choice.{only}
use Rattle.recording.specs.declared.Noted.{Noted}
use Rattle.recording_lines.specs.Records.{is_record, record_stated}

pub is_record_unique : (xs : List ℕ) → Unique (λ (r : Bool). r ≡ is_record xs)
is_record_unique xs = only (is_record xs)

pub record_in_unique : (xs : List ℕ) → Unique (λ (r : Noted). r ≡ record_stated xs)
record_in_unique xs = only (record_stated xs)
