-- Eight times a number by a shift.
use mathlib.Core.Path.{◌≡◌}
use Prim.Native.Nat.{ℕ, ◌*◌, ◌%◌, ◌<◌}
use native.Mathlib.Omega.{arith}

-- eight times a number, as a shift of 64 bits gives it
pub eight_times : (n : ℕ) → n < 1152921504606846976 → n * 8 % 18446744073709551616 ≡ n * 8
eight_times n h = whole (n * 8) (omega arith)
  where
    whole : (m : ℕ) → m < 18446744073709551616 → m % 18446744073709551616 ≡ m
    whole m l = omega arith
