-- Two results that a promise of this crate allows are equal.
use mathlib.Core.Path.{◌≡◌}
use mathlib.Core.Bool.{Bool}
use mathlib.Core.List.{List}
use Prim.Native.Nat.{ℕ}
use lib.ListN.{length}
use Rattle.common.specs.Choice.{Unique}
use Rattle.common.proofs.Choice.{only}
use Rattle.loader_walk.specs.Walks.{rises_in, diff_from}

pub units_of_unique : (us : List ℕ) → Unique (λ (r : ℕ). r ≡ length us)
units_of_unique us = only (length us)

pub rises_in_unique : (w sc : List ℕ) → Unique (λ (r : Bool). r ≡ rises_in w sc)
rises_in_unique w sc = only (rises_in w sc)

pub diff_from_unique : (from : ℕ) (w sc : List ℕ) → Unique (λ (r : ℕ). r ≡ diff_from from w sc)
diff_from_unique from w sc = only (diff_from from w sc)
