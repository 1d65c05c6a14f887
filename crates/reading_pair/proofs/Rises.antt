-- Two readings of one pair, over whole microvolts and whole tenths.
use Prim.Native.Nat.{◌≤◌}
use native.Mathlib.Omega.{arith}
use lib.Dec.{T}
use lib.IntN.{ℤ, nat_abs}
use lib.Signed.{le_z, lt_z}
use lib.Ieee.{binary64, le, of_int}
use Rattle.reading_pair.specs.Pairs.{pair_of, interpolated}
use Rattle.reading_pair.proofs.Knots.{sign, has, plain, few, small, near, sizes}
use Rattle.reading_pair.proofs.Inside.{apart_down, weak, some_gap, up_gap, less_gap}
use Rattle.reading_pair.proofs.Monotone.{rises_from, falls_from}

module _ (x0 t0 x1 t1 x y : ℤ) (r0 : nat_abs x0 ≤ 80000) (r1 : nat_abs x1 ≤ 80000) (r : nat_abs x ≤ 80000) (q : nat_abs y ≤ 80000) (u0 : nat_abs t0 ≤ 32768) (u1 : nat_abs t1 ≤ 32768)
    (rises : T (lt_z x0 x1)) (after : T (le_z x0 x)) (after' : T (le_z x0 y)) (before : T (le_z x x1)) (before' : T (le_z y x1)) (order : T (le_z x y)) where
  up : T (le_z x0 x1)
  up = weak x0 x1 rises

  pub inside_rises : T (le_z t0 t1) → T (le (interpolated (pair_of x0 t0 x1 t1) (of_int binary64 x)) (interpolated (pair_of x0 t0 x1 t1) (of_int binary64 y)))
  inside_rises h =
      rises_from binary64 (of_int binary64 t0) (of_int binary64 t1) (of_int binary64 x0) (of_int binary64 x1) (of_int binary64 x) (of_int binary64 y) (sign t0) (sign t1) (sign x0) (sign x1) (sign x) (sign y)
      (nat_abs t0) (nat_abs t1) (nat_abs x0) (nat_abs x1) (nat_abs x) (nat_abs y) (has t0 (omega (arith, u0))) (has t1 (omega (arith, u1))) (has x0 r0) (has x1 r1) (has x r) (has y q) (plain t0) (plain t1)
      (some_gap x0 x1 rises) (up_gap x0 x1 up) (up_gap x0 x after) (up_gap x0 y after') (less_gap x0 x x1 after up before) (less_gap x0 y x1 after' up before') (less_gap x0 x y after after' order)
      (few x0 t0 x1 t1 r0 r1 u0 u1) (small x0 t0 x1 t1 r0 r1 u0 u1) (near x0 t0 x1 t1 r0 r1 u0 u1) (sizes x0 t0 x1 t1 r0 r1 u0 u1) (up_gap t0 t1 h)

  pub inside_falls : T (lt_z t1 t0) → T (le (interpolated (pair_of x0 t0 x1 t1) (of_int binary64 y)) (interpolated (pair_of x0 t0 x1 t1) (of_int binary64 x)))
  inside_falls h =
      falls_from binary64 (of_int binary64 t0) (of_int binary64 t1) (of_int binary64 x0) (of_int binary64 x1) (of_int binary64 x) (of_int binary64 y) (sign t0) (sign t1) (sign x0) (sign x1) (sign x) (sign y)
      (nat_abs t0) (nat_abs t1) (nat_abs x0) (nat_abs x1) (nat_abs x) (nat_abs y) (has t0 (omega (arith, u0))) (has t1 (omega (arith, u1))) (has x0 r0) (has x1 r1) (has x r) (has y q) (plain t0) (plain t1)
      (some_gap x0 x1 rises) (up_gap x0 x1 up) (up_gap x0 x after) (up_gap x0 y after') (less_gap x0 x x1 after up before) (less_gap x0 y x1 after' up before') (less_gap x0 x y after after' order)
      (few x0 t0 x1 t1 r0 r1 u0 u1) (small x0 t0 x1 t1 r0 r1 u0 u1) (near x0 t0 x1 t1 r0 r1 u0 u1) (sizes x0 t0 x1 t1 r0 r1 u0 u1) (apart_down t0 t1 h)
