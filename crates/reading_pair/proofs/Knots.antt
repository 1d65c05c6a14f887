-- Whole numbers of the card as f64, and a reading that is exact at both knots.
use mathlib.Core.Path.{◌≡◌, refl, sym, ◌∙◌, subst}
use mathlib.Core.Bool.{Bool, true, false, not, cond, ◌&&◌, beq}
use Prim.Native.Nat.{ℕ, ◌+◌, ◌-◌, ◌*◌, ◌≤◌, ◌<◌, ◌^◌}
use native.Mathlib.Nat.{le_trans, mul-le-mul}
use native.Mathlib.Omega.{arith}
use lib.Dec.{ltb, lit≤}
use lib.IntN.{ℤ, pos, negsuc, nat_abs}
use lib.Ieee.{Float, binary64, prec, round, of_int}
use lib.Ieee.Exact.{HasValue}
use lib.Ieee.Back.{round_whole}
use Rattle.reading_pair.specs.Pairs.{pair_of, interpolated}
use Rattle.reading_pair.proofs.WholeNumbers.{gap, first_knot, second_knot}

abbrev pub sign : ℤ → Bool
sign (pos n) = false
sign (negsuc n) = true

pub of_round : (z : ℤ) → of_int binary64 z ≡ round binary64 (sign z) (nat_abs z) 1
unfolding of_int
of_round (pos n) = refl
of_round (negsuc n) = refl

pub has : (z : ℤ) → nat_abs z ≤ 80000 → HasValue (of_int binary64 z) (sign z) (nat_abs z) 1
has z h = subst (λ (x : Float). HasValue x (sign z) (nat_abs z) 1) (sym (of_round z)) (round_whole binary64 (sign z) (nat_abs z) (le_trans h (lit≤ tt)))

pub plain : (z : ℤ) → nat_abs z ≡ 0 → sign z ≡ false
plain (pos n) e = refl
plain (negsuc n) e = let z : ⊥ = omega (arith, e) in absurd z

-- a difference is at most the two sizes together
pub gap_le : (t : Bool) (b : ℕ) (s : Bool) (a : ℕ) → gap t b s a ≤ b + a
gap_le t b s a = go (beq t (not s)) (ltb b a)
  where
    go : (y z : Bool) → (cond {A = Bool × ℕ} y (t, b + a) (cond {A = Bool × ℕ} z (not s, a - b) (t && ltb a b, b - a))).1 ≤ b + a
    go true z = omega arith
    go false true = omega arith
    go false false = omega arith

-- whole numbers within the card's ranges
module _ (x0 t0 x1 t1 : ℤ) (r0 : nat_abs x0 ≤ 80000) (r1 : nat_abs x1 ≤ 80000) (u0 : nat_abs t0 ≤ 32768) (u1 : nat_abs t1 ≤ 32768) where
  abbrev G : ℕ
  G = gap (sign t1) (nat_abs t1) (sign t0) (nat_abs t0)

  abbrev X : ℕ
  X = gap (sign x1) (nat_abs x1) (sign x0) (nat_abs x0)

  g_le : G ≤ 65536
  g_le = omega (arith, gap_le (sign t1) (nat_abs t1) (sign t0) (nat_abs t0), u0, u1)

  x_le : X ≤ 160000
  x_le = omega (arith, gap_le (sign x1) (nat_abs x1) (sign x0) (nat_abs x0), r0, r1)

  -- their differences and the product of these are whole numbers that f64 counts without a gap
  pub few : G * X ≤ 2 ^ prec binary64
  few = le_trans (mul-le-mul g_le x_le) (lit≤ tt)

  pub small : G ≤ 2 ^ prec binary64
  small = le_trans g_le (lit≤ tt)

  pub near : X ≤ 2 ^ prec binary64
  near = le_trans x_le (lit≤ tt)

  pub sizes : nat_abs t0 + nat_abs t1 ≤ 2 ^ prec binary64
  sizes = le_trans (omega (arith, u0, u1)) (lit≤ {m = 65536} tt)

  -- exact at both knots
  module _ (apart : 0 < gap (sign x1) (nat_abs x1) (sign x0) (nat_abs x0)) where
    pub at_second : interpolated (pair_of x0 t0 x1 t1) (of_int binary64 x1) ≡ of_int binary64 t1
    at_second =
        second_knot binary64 (of_int binary64 t0) (of_int binary64 t1) (of_int binary64 x0) (of_int binary64 x1) (sign t0) (sign t1) (sign x0) (sign x1) (nat_abs t0) (nat_abs t1) (nat_abs x0) (nat_abs x1)
        (has t0 (omega (arith, u0))) (has t1 (omega (arith, u1))) (has x0 r0) (has x1 r1) (plain t0) (plain t1) apart few small near ∙ sym (of_round t1)

    pub at_first : interpolated (pair_of x0 t0 x1 t1) (of_int binary64 x0) ≡ of_int binary64 t0
    at_first =
        first_knot binary64 (of_int binary64 t0) (of_int binary64 t1) (of_int binary64 x0) (of_int binary64 x1) (sign t0) (sign t1) (sign x0) (sign x1) (nat_abs t0) (nat_abs t1) (nat_abs x0) (nat_abs x1)
        (has t0 (omega (arith, u0))) (has t1 (omega (arith, u1))) (has x0 r0) (has x1 r1) (plain t0) (plain t1) apart few small near ∙ sym (of_round t0)
