-- Two results that a promise of this crate allows are equal.
use mathlib.Core.Path.{◌≡◌}
use Prim.Native.Nat.{ℕ}
use Rattle.common.specs.Choice.{Unique}
use Rattle.common.proofs.Choice.{only}
use Rattle.device.specs.declared.Span.{Span}
use Rattle.c_blocks.specs.Table.{block_at}

pub block_at_unique : (part k : ℕ) → Unique (λ (r : Span). r ≡ block_at part k)
block_at_unique part k = only (block_at part k)
