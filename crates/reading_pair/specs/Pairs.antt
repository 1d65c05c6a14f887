-- A pair of knots and the reading between them.
use Rattle.std.specs.Prelude.{ℤ, Float}
use Rattle.std.specs.Float.Ieee.{add, sub, mul, div, of_int}
use Rattle.std.specs.Float.{binary64}
use Rattle.reading_pair.specs.declared.Pair.{Pair}

-- two knots given as whole numbers, each number as the f64 nearest to it (R-form-3)
abbrev pub pair_of : ℤ → ℤ → ℤ → ℤ → Pair
pair_of x0 t0 x1 t1 = record { x0 = of_int binary64 x0; t0 = of_int binary64 t0; x1 = of_int binary64 x1; t1 = of_int binary64 t1 }

-- t0 + (t1 - t0)(x - x0)/(x1 - x0): each operation rounded once from the left, multiplication before division (R-reading-2, R-form-1)
abbrev pub interpolated : Pair → Float → Float
interpolated p x =
    add binary64 p.t0
    (div binary64 (mul binary64 (sub binary64 p.t1 p.t0) (sub binary64 x p.x0)) (sub binary64 p.x1 p.x0))
