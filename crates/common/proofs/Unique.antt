-- Two results that a promise of this crate allows are equal, and so is what it leaves in each thing lent.
use mathlib.Core.Path.{◌≡◌}
use mathlib.Core.List.{List}
use Prim.Native.Nat.{ℕ, ◌<◌, min}
use lib.ListN.{length, get_or, replicate}
use Rattle.common.specs.Choice.{Unique}
use Rattle.common.proofs.Choice.{only}
use Rattle.common.specs.Lists.{copied}

pub wide_unique : (x : ℕ) → Unique (λ (r : ℕ). (r ≡ x) × (x < 256))
wide_unique x r q p s = only x r q p.0 s.0

pub nth_unique : (s : List ℕ) (at : ℕ) → Unique (λ (r : ℕ). r ≡ get_or s at 0)
nth_unique s at = only (get_or s at 0)

-- what is left in the slice lent
pub fill_unique : (s : List ℕ) (b : ℕ) → Unique (λ (left : List ℕ). left ≡ replicate (length s) b)
fill_unique s b = only (replicate (length s) b)

pub copy_unique : (dst src : List ℕ) → Unique (λ (left : List ℕ). left ≡ copied dst src)
copy_unique dst src = only (copied dst src)

pub least_unique : (a b : ℕ) → Unique (λ (r : ℕ). r ≡ min a b)
least_unique a b = only (min a b)
