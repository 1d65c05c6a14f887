-- Two results that a promise of this crate allows are equal.
use mathlib.Core.Path.{◌≡◌}
use lib.IntN.{ℤ}
use lib.Ieee.{Float}
use Rattle.common.specs.Choice.{Unique}
use Rattle.common.proofs.Choice.{only}
use Rattle.reading_pair.specs.declared.Pair.{Pair}
use Rattle.reading_pair.specs.Pairs.{pair_of, interpolated}

pub pair_of_unique : (x0 t0 x1 t1 : ℤ) → Unique (λ (r : Pair). r ≡ pair_of x0 t0 x1 t1)
pair_of_unique x0 t0 x1 t1 = only (pair_of x0 t0 x1 t1)

pub interpolate_unique : (p : Pair) (x : Float) → Unique (λ (r : Float). r ≡ interpolated p x)
interpolate_unique p x = only (interpolated p x)
