-- Two results that a promise of this crate allows are equal, and so is what it leaves in the array lent.
use mathlib.Core.Path.{◌≡◌}
use mathlib.Core.List.{List}
use Prim.Native.Nat.{ℕ}
use Rattle.common.specs.Choice.{Unique}
use Rattle.common.proofs.Choice.{only}
use Rattle.model_types.specs.declared.Wear.{Wear}
use Rattle.std.specs.Prelude.{Result}
use Rattle.trace_wear.specs.declared.BadLine.{BadLine}
use Rattle.trace_wear.specs.Wears.{worn_of, count_told, array_worn}

pub count_unique : (xs rs text : List ℕ) → Unique (λ (r : Result Wear BadLine). r ≡ worn_of xs rs text)
count_unique xs rs text = only (worn_of xs rs text)

pub count_told_unique : (xs rs text : List ℕ) → Unique (λ (told : ℕ × List Wear). told ≡ count_told xs rs text)
count_told_unique xs rs text = only (count_told xs rs text)

pub count_array_unique : (xs rs text : List ℕ) → Unique (λ (left : List ℕ). left ≡ array_worn xs rs text)
count_array_unique xs rs text = only (array_worn xs rs text)
