-- Two results that a promise of this crate allows are equal.
use mathlib.Core.Path.{◌≡◌}
use mathlib.Core.Bool.{Bool}
use mathlib.Core.List.{List}
use Prim.Native.Nat.{ℕ}
use Rattle.common.specs.Choice.{Unique}
use Rattle.common.proofs.Choice.{only}
use Rattle.model_types.specs.declared.Wear.{Wear}
use Rattle.std.specs.Prelude.{Result}
use Rattle.trace_wear.specs.declared.BadLine.{BadLine}
use Rattle.recording_wear.specs.Recorded.{looks_recorded, worn_recorded, recorded_told}

pub is_recording_unique : (text : List ℕ) → Unique (λ (r : Bool). r ≡ looks_recorded text)
is_recording_unique text = only (looks_recorded text)

pub count_unique : (text : List ℕ) → Unique (λ (r : Result Wear BadLine). r ≡ worn_recorded text)
count_unique text = only (worn_recorded text)

pub count_told_unique : (text : List ℕ) → Unique (λ (told : ℕ × List Wear). told ≡ recorded_told text)
count_told_unique text = only (recorded_told text)
