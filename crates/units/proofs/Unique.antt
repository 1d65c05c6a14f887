-- Two results that a promise of this crate allows are equal, and so is what it leaves in each thing lent.
use mathlib.Core.Path.{◌≡◌, sym, ◌∙◌}
use mathlib.Core.Bool.{Bool}
use mathlib.Core.List.{List}
use Prim.Native.Nat.{ℕ, ◌/◌, ◌%◌, ◌≤◌, ◌<◌}
use lib.ListN.{length, get_or, replicate}
use Rattle.common.specs.Choice.{Unique}
use Rattle.common.specs.Lists.{Bytes}
use Rattle.common.proofs.Choice.{only}
use Rattle.units.specs.Units.{pairs, units, spare, units_in, lent_in, carried, top}
use Rattle.units.specs.Address.{byte_at}
use Rattle.units.proofs.Widths.{same_bytes}

pub byte_at_unique : (w : Bool) (a : ℕ) (high : Bool) → Unique (λ (r : ℕ). r ≡ byte_at w a high)
byte_at_unique w a high = only (byte_at w a high)

pub wide_unique : (x : ℕ) → Unique (λ (r : ℕ). (r ≡ x) × (x < 256))
wide_unique x r q p s = only x r q p.0 s.0

pub low_unique : (v : ℕ) → Unique (λ (r : ℕ). r ≡ v % 256)
low_unique v = only (v % 256)

pub high_unique : (v : ℕ) → Unique (λ (r : ℕ). r ≡ v / 256)
high_unique v = only (v / 256)

pub carry_unique : (w : Bool) (v : ℕ) → Unique (λ (r : ℕ). r ≡ carried w v)
carry_unique w v = only (carried w v)

pub units_in_unique : (w : Bool) (n : ℕ) → Unique (λ (r : ℕ). r ≡ units_in w n)
units_in_unique w n = only (units_in w n)

pub lent_in_unique : (w : Bool) (n : ℕ) → Unique (λ (r : ℕ). r ≡ lent_in w n)
lent_in_unique w n = only (lent_in w n)

pub get_word_unique : (s : List ℕ) (at : ℕ) → Unique (λ (r : ℕ). r ≡ get_or (pairs s) at 0)
get_word_unique s at = only (get_or (pairs s) at 0)

pub get_unit_unique : (w : Bool) (s : List ℕ) (at : ℕ) → Unique (λ (r : ℕ). (r ≡ get_or (units w s) at 0) × (r ≤ top w))
get_unit_unique w s at r q p t = only (get_or (units w s) at 0) r q p.0 t.0

-- what is left in the slice lent, by its units and the byte that is in none: so it is for every function here that writes units. That a
-- slice's elements are below 256 is a fact of slices
pub left_unique : (w : Bool) (us rest xs ys : List ℕ) → Bytes xs → Bytes ys → (units w xs ≡ us) × (spare w xs ≡ rest) → (units w ys ≡ us) × (spare w ys ≡ rest) → xs ≡ ys
left_unique w us rest xs ys b c p q = same_bytes w xs ys b c (p.0 ∙ sym q.0) (p.1 ∙ sym q.1)

pub fill_units_unique : (s : List ℕ) → Unique (λ (left : List ℕ). left ≡ replicate (length s) 255)
fill_units_unique s = only (replicate (length s) 255)
