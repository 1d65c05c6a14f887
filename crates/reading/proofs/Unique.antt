-- Two results that a promise of this crate allows are equal, and so is what it leaves in the room lent.
use mathlib.Core.Path.{◌≡◌}
use mathlib.Core.List.{List}
use Prim.Native.Nat.{ℕ}
use lib.IntN.{ℤ}
use lib.Ieee.{Float}
use lib.ListN.{length}
use Rattle.common.specs.Choice.{Unique}
use Rattle.common.proofs.Choice.{only}
use Rattle.file_codec.specs.File.{limit, reader_of, in_room, left_in}
use Rattle.reading.specs.declared.ReadingAnswer.{ReadingAnswer}
use Rattle.reading.specs.Readings.{reading_number, reading_answer, answer_as, told_at, told_as}

pub reading_at_unique : (p : List ℕ) (x : ℤ) → Unique (λ (r : ReadingAnswer). r ≡ reading_answer p x)
reading_at_unique p x = only (reading_answer p x)

pub reading_at_told_unique : (p : List ℕ) (x : ℤ) → Unique (λ (told : ℕ × List (ℕ × Float)). told ≡ told_at (reading_number p x) p x)
reading_at_told_unique p x = only (told_at (reading_number p x) p x)

pub reading_from_file_unique : (f : List ℕ) (letter : ℕ) (room : List ℕ) (x : ℤ) → Unique (λ (r : ReadingAnswer). r ≡ answer_as x (in_room (length room) (reader_of limit f letter)))
reading_from_file_unique f letter room x = only (answer_as x (in_room (length room) (reader_of limit f letter)))

pub reading_from_file_told_unique : (f : List ℕ) (letter : ℕ) (room : List ℕ) (x : ℤ)
    → Unique (λ (told : ℕ × List (ℕ × Float)). told ≡ told_as x (in_room (length room) (reader_of limit f letter)))
reading_from_file_told_unique f letter room x = only (told_as x (in_room (length room) (reader_of limit f letter)))

pub reading_from_file_left_unique : (f : List ℕ) (letter : ℕ) (room : List ℕ) → Unique (λ (left : List ℕ). left ≡ left_in room (in_room (length room) (reader_of limit f letter)))
reading_from_file_left_unique f letter room = only (left_in room (in_room (length room) (reader_of limit f letter)))
