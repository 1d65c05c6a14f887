-- Two results that a promise of this crate allows are equal, and so is what it leaves in each thing lent.
use mathlib.Core.Path.{◌≡◌}
use mathlib.Core.List.{List}
use Prim.Native.Nat.{ℕ}
use lib.ListN.{length}
use Rattle.std.specs.Prelude.{Result}
use Rattle.common.specs.Choice.{Unique}
use Rattle.common.proofs.Choice.{only}
use Rattle.file_codec.specs.File.{limit, writer_of, in_room, left_in, answered_as, told_by}
use Rattle.file_check.specs.declared.refusal.FileRefusal.{FileRefusal}

pub write_unique : (ℓ : ℕ) (p out : List ℕ) → Unique (λ (r : Result ℕ FileRefusal). r ≡ answered_as (in_room (length out) (writer_of limit ℓ p)))
write_unique ℓ p out = only (answered_as (in_room (length out) (writer_of limit ℓ p)))

pub write_told_unique : (ℓ : ℕ) (p out : List ℕ) → Unique (λ (told : ℕ × List ℕ). told ≡ told_by (in_room (length out) (writer_of limit ℓ p)))
write_told_unique ℓ p out = only (told_by (in_room (length out) (writer_of limit ℓ p)))

pub write_left_unique : (ℓ : ℕ) (p out : List ℕ) → Unique (λ (left : List ℕ). left ≡ left_in out (in_room (length out) (writer_of limit ℓ p)))
write_left_unique ℓ p out = only (left_in out (in_room (length out) (writer_of limit ℓ p)))
