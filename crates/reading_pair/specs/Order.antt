-- Where a reading lies, in f64's own order.
use Rattle.std.specs.Prelude.{Bool, true, false, T, ltb, ℤ, Float}
use Rattle.std.specs.Float.{nan, inf, fin, binary64}
use Rattle.std.specs.Float.Ieee.{le, of_int}
use Rattle.std.specs.Float.Ieee.Scale.{finite}

-- not the zero with a minus sign
abbrev pub not_minus_zero : Float → Bool
not_minus_zero nan = true
not_minus_zero (inf s) = true
not_minus_zero (fin false m e) = true
not_minus_zero (fin true m e) = ltb 0 m

-- r is at least a and at most b, neither a NaN nor an infinity, nor the zero with a minus sign
abbrev pub LiesBetween : ℤ → Float → ℤ → Type 0
LiesBetween a r b = T (le (of_int binary64 a) r) × T (le r (of_int binary64 b)) × T (finite r) × T (not_minus_zero r)
