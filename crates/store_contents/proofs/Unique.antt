-- Two results that a promise of this crate allows are equal, and so is what it leaves in memory.
use mathlib.Core.Path.{◌≡◌}
use mathlib.Core.List.{List}
use Prim.Native.Nat.{ℕ}
use lib.ListN.{length}
use Rattle.common.specs.Choice.{Unique}
use Rattle.common.proofs.Choice.{only}
use Rattle.file_codec.specs.File.{limit}
use Rattle.store_places.specs.Store.{drop_of, add_of}
use Rattle.store_survey.specs.Survey.{reader_number}
use Rattle.store_contents.specs.Contents.{drop_in_number, add_in_number, memory_by}

pub drop_into_unique : (main : List ℕ) (ℓ : ℕ) (memory : List ℕ) → Unique (λ (r : ℕ). r ≡ drop_in_number main ℓ (length memory))
drop_into_unique main ℓ memory = only (drop_in_number main ℓ (length memory))

pub drop_into_memory_unique : (main : List ℕ) (ℓ : ℕ) (memory : List ℕ) → Unique (λ (left : List ℕ). left ≡ memory_by (drop_in_number main ℓ (length memory)) (drop_of (reader_number limit) ℓ main) memory)
drop_into_memory_unique main ℓ memory = only (memory_by (drop_in_number main ℓ (length memory)) (drop_of (reader_number limit) ℓ main) memory)

pub add_into_unique : (main f : List ℕ) (ℓ : ℕ) (memory : List ℕ) → Unique (λ (r : ℕ). r ≡ add_in_number main f ℓ (length memory))
add_into_unique main f ℓ memory = only (add_in_number main f ℓ (length memory))

pub add_into_memory_unique : (main f : List ℕ) (ℓ : ℕ) (memory : List ℕ) → Unique (λ (left : List ℕ). left ≡ memory_by (add_in_number main f ℓ (length memory)) (add_of (reader_number limit) ℓ f main) memory)
add_into_memory_unique main f ℓ memory = only (memory_by (add_in_number main f ℓ (length memory)) (add_of (reader_number limit) ℓ f main) memory)
