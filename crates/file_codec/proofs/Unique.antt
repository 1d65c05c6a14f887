-- Two results that a promise of this crate allows are equal, and so is what it leaves in each thing lent.
use mathlib.Core.Path.{◌≡◌}
use mathlib.Core.List.{List}
use Prim.Native.Nat.{ℕ}
use lib.ListN.{length}
use Rattle.std.specs.Prelude.{Result}
use Rattle.file_check.specs.declared.refusal.FileRefusal.{FileRefusal}
use Rattle.common.specs.Choice.{Unique}
use Rattle.common.proofs.Choice.{only}
use Rattle.file_codec.specs.File.{limit, reader_of, in_room, left_in, answered_as, told_by}

pub judge_unique : (f : List ℕ) (asked : ℕ) → Unique (λ (r : Result ℕ FileRefusal). r ≡ answered_as (reader_of limit f asked))
judge_unique f asked = only (answered_as (reader_of limit f asked))

pub judge_told_unique : (f : List ℕ) (asked : ℕ) → Unique (λ (told : ℕ × List ℕ). told ≡ told_by (reader_of limit f asked))
judge_told_unique f asked = only (told_by (reader_of limit f asked))

pub read_unique : (f : List ℕ) (asked : ℕ) (out : List ℕ) → Unique (λ (r : Result ℕ FileRefusal). r ≡ answered_as (in_room (length out) (reader_of limit f asked)))
read_unique f asked out = only (answered_as (in_room (length out) (reader_of limit f asked)))

pub read_told_unique : (f : List ℕ) (asked : ℕ) (out : List ℕ) → Unique (λ (told : ℕ × List ℕ). told ≡ told_by (in_room (length out) (reader_of limit f asked)))
read_told_unique f asked out = only (told_by (in_room (length out) (reader_of limit f asked)))

pub read_left_unique : (f : List ℕ) (asked : ℕ) (out : List ℕ) → Unique (λ (left : List ℕ). left ≡ left_in out (in_room (length out) (reader_of limit f asked)))
read_left_unique f asked out = only (left_in out (in_room (length out) (reader_of limit f asked)))
