-- Two results that a promise of this crate allows are equal, and so is what it leaves in each thing lent.
use mathlib.Core.Path.{◌≡◌}
use mathlib.Core.List.{List}
use Prim.Native.Nat.{ℕ, ◌+◌, ◌%◌, ◌≤◌, min, max}
use lib.ListN.{length, replicate, set, take}
use Rattle.common.specs.Choice.{Unique}
use Rattle.common.proofs.Choice.{only}
use Rattle.vectors_text.specs.declared.Group.{Group}
use Rattle.vectors_text.specs.Text.{number_read, field_of, next_row, group_at, letters_of}
use Rattle.vectors_text.specs.Patterns.{digest_of, pattern_of, sown, stretched}

pub word_at_unique : (s : List ℕ) (base at n : ℕ) → Unique (λ (r : ℕ). r ≡ number_read base (field_of s at n))
word_at_unique s base at n = only (number_read base (field_of s at n))

pub byte_at_unique : (s : List ℕ) (base at n : ℕ) → Unique (λ (r : ℕ). r ≡ number_read base (field_of s at n) % 256)
byte_at_unique s base at n = only (number_read base (field_of s at n) % 256)

pub half_at_unique : (s : List ℕ) (base at n : ℕ) → Unique (λ (r : ℕ). r ≡ number_read base (field_of s at n) % 65536)
half_at_unique s base at n = only (number_read base (field_of s at n) % 65536)

pub size_at_unique : (s : List ℕ) (base at n : ℕ) → Unique (λ (r : ℕ). r ≡ number_read base (field_of s at n))
size_at_unique s base at n = only (number_read base (field_of s at n))

pub next_row_unique : (text : List ℕ) (at : ℕ) → Unique (λ (r : ℕ). (r ≡ next_row text at) × (min (at + 1) (length text) ≤ r) × (r ≤ max at (length text)))
next_row_unique text at r q p t = only (next_row text at) r q p.0 t.0

pub letters_unique : (g : Group) → Unique (λ (r : List ℕ). r ≡ letters_of g)
letters_unique g = only (letters_of g)

pub group_at_unique : (row : List ℕ) → Unique (λ (r : Group). r ≡ group_at row)
group_at_unique row = only (group_at row)

pub digest_unique : (s : List ℕ) → Unique (λ (r : ℕ). r ≡ digest_of s)
digest_unique s = only (digest_of s)

-- what is left in the slice lent
pub pattern_unique : (s : List ℕ) (top first step : ℕ) → Unique (λ (left : List ℕ). left ≡ pattern_of top first step (length s))
pattern_unique s top first step = only (pattern_of top first step (length s))

pub sow_unique : (s : List ℕ) (asked : ℕ) (row : List ℕ) (at : ℕ) → Unique (λ (left : List ℕ). left ≡ sown s asked row at)
sow_unique s asked row at = only (sown s asked row at)

pub put_byte_unique : (s row : List ℕ) → Unique (λ (left : List ℕ). left ≡ set s (number_read 16 (field_of row 2 8)) (number_read 16 (field_of row 11 2) % 256))
put_byte_unique s row = only (set s (number_read 16 (field_of row 2 8)) (number_read 16 (field_of row 11 2) % 256))

pub put_stretch_unique : (s row : List ℕ) → Unique (λ (left : List ℕ). left ≡ stretched s (number_read 16 (field_of row 2 8)) (number_read 10 (field_of row 11 6)) (number_read 16 (field_of row 18 2) % 256))
put_stretch_unique s row = only (stretched s (number_read 16 (field_of row 2 8)) (number_read 10 (field_of row 11 6)) (number_read 16 (field_of row 18 2) % 256))

pub digest_front_unique : (s : List ℕ) (asked : ℕ) → Unique (λ (r : ℕ). r ≡ digest_of (take asked s))
digest_front_unique s asked = only (digest_of (take asked s))

-- the array made
pub blank_unique : Unique (λ (r : List ℕ). (r ≡ replicate {A = ℕ} 131073 0) × (131073 ≡ length r))
blank_unique r q p t = only (replicate {A = ℕ} 131073 0) r q p.0 t.0
