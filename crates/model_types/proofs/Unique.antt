-- Two results that a promise of this crate allows are equal.
use mathlib.Core.Path.{◌≡◌}
use Prim.Native.Nat.{ℕ}
use Rattle.common.specs.Choice.{Unique}
use Rattle.common.proofs.Choice.{only}
use Rattle.device.specs.declared.Part.{Part}
use Rattle.model_types.specs.declared.Wear.{Wear}
use Rattle.model_types.specs.Cells.{ones}
use Rattle.model_types.specs.Counts.{unworn, raised, worn}

pub ones_unique : (part : Part) → Unique (λ (r : ℕ). r ≡ ones part)
ones_unique part = only (ones part)

pub unworn_unique : Unique (λ (r : Wear). r ≡ unworn)
unworn_unique = only unworn

pub raise_unique : (n : ℕ) → Unique (λ (r : ℕ). r ≡ raised n)
raise_unique n = only (raised n)

pub wear_out_unique : (w : Wear) (k : ℕ) → Unique (λ (r : Wear). r ≡ worn w k)
wear_out_unique w k = only (worn w k)
