-- Two results that a promise of this crate allows are equal, and so is what it leaves in each thing lent.
use mathlib.Core.Path.{◌≡◌}
use mathlib.Core.List.{List}
use Prim.Native.Nat.{ℕ}
use lib.IntN.{ℤ}
use lib.Ieee.{Float}
use lib.ListN.{length}
use Rattle.common.specs.Choice.{Unique}
use Rattle.common.proofs.Choice.{only}
use Rattle.file_codec.specs.File.{in_room, left_in}
use Rattle.reading.specs.Readings.{answer_as, told_as}
use Rattle.reading.specs.declared.ReadingAnswer.{ReadingAnswer}
use Rattle.store_find.specs.declared.Stands.{Stands}
use Rattle.store_find.specs.declared.Found.{Found}
use Rattle.store_find.specs.Finds.{stands_of, found_in, found_as, read_by}

pub seek_unique : (main : List ℕ) (ℓ : ℕ) → Unique (λ (r : Stands). r ≡ stands_of main ℓ)
seek_unique main ℓ = only (stands_of main ℓ)

pub find_in_unique : (main : List ℕ) (ℓ : ℕ) (room : List ℕ) → Unique (λ (r : Found). r ≡ found_as (in_room (length room) (found_in main ℓ)))
find_in_unique main ℓ room = only (found_as (in_room (length room) (found_in main ℓ)))

pub find_in_room_unique : (main : List ℕ) (ℓ : ℕ) (room : List ℕ) → Unique (λ (left : List ℕ). left ≡ left_in room (in_room (length room) (found_in main ℓ)))
find_in_room_unique main ℓ room = only (left_in room (in_room (length room) (found_in main ℓ)))

pub read_in_unique : (main : List ℕ) (ℓ : ℕ) (room : List ℕ) (x : ℤ) → Unique (λ (r : ReadingAnswer). r ≡ answer_as x (in_room (length room) (read_by ℓ (found_in main ℓ))))
read_in_unique main ℓ room x = only (answer_as x (in_room (length room) (read_by ℓ (found_in main ℓ))))

pub read_in_room_unique : (main : List ℕ) (ℓ : ℕ) (room : List ℕ) → Unique (λ (left : List ℕ). left ≡ left_in room (in_room (length room) (read_by ℓ (found_in main ℓ))))
read_in_room_unique main ℓ room = only (left_in room (in_room (length room) (read_by ℓ (found_in main ℓ))))

pub read_in_told_unique : (main : List ℕ) (ℓ : ℕ) (room : List ℕ) (x : ℤ)
    → Unique (λ (told : ℕ × List (ℕ × Float)). told ≡ told_as x (in_room (length room) (read_by ℓ (found_in main ℓ))))
read_in_told_unique main ℓ room x = only (told_as x (in_room (length room) (read_by ℓ (found_in main ℓ))))
