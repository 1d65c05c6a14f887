-- A reading inside its pair of knots, over whole microvolts and whole tenths.
use mathlib.Core.Path.{◌≡◌, refl, sym, ap, subst}
use mathlib.Core.Bool.{Bool, true, false, not}
use mathlib.Core.Logic.{⊎_elim}
use Prim.Native.Nat.{ℕ, suc, ◌+◌, ◌-◌, ◌≤◌, ◌<◌}
use native.Mathlib.Omega.{arith}
use lib.Dec.{T, leb→le, ltb→lt, le→leb}
use lib.IntN.{ℤ, pos, negsuc, nat_abs}
use lib.Signed.{le_z, lt_z}
use lib.Ieee.{binary64, of_int}
use Rattle.reading_pair.specs.Pairs.{pair_of, interpolated}
use Rattle.reading_pair.proofs.WholeNumbers.{yes_lt, no_lt, below?, plus, gap}
use Rattle.reading_pair.proofs.Knots.{sign, has, plain, few, small, near, sizes}
use Rattle.reading_pair.specs.Order.{LiesBetween}
use Rattle.reading_pair.proofs.Between.{up_from, down_from}

-- z - a for a ≤ z
abbrev pub dist : ℤ → ℤ → ℕ
dist (pos a) (pos z) = z - a
dist (pos a) (negsuc z) = 0
dist (negsuc a) (pos z) = z + suc a
dist (negsuc a) (negsuc z) = suc a - suc z

-- the difference of z and a, as its sign and its size
abbrev pub apart : ℤ → ℤ → Bool × ℕ
apart z a = plus (sign z) (nat_abs z) (not (sign a)) (nat_abs a)

pub apart_up : (a z : ℤ) → T (le_z a z) → apart z a ≡ (false, dist a z)
apart_up (pos a) (pos z) h = simp (no_lt z a (leb→le a z h))
apart_up (pos a) (negsuc z) h = absurd h
apart_up (negsuc a) (pos z) h = refl
apart_up (negsuc a) (negsuc z) h =
    let l : z ≤ a = leb→le z a h in
    ⊎_elim
    (λ (m : suc z < suc a). simp (yes_lt (suc z) (suc a) m))
    (λ (m : suc a ≤ suc z). simp (no_lt (suc z) (suc a) m, no_lt (suc a) (suc z) (omega (arith, l))) (ap (λ (n : ℕ). (false, n)) (omega (arith, l, m)))) (below? (suc z) (suc a))

pub apart_down : (a z : ℤ) → T (lt_z z a) → (apart z a).0 ≡ true
apart_down (pos a) (pos z) h = simp (yes_lt z a (ltb→lt z a h))
apart_down (negsuc a) (pos z) h = absurd h
apart_down (pos a) (negsuc z) h = refl
apart_down (negsuc a) (negsuc z) h =
    let l : a < z = ltb→lt a z h in
    simp (no_lt (suc z) (suc a) (omega (arith, l)), yes_lt (suc a) (suc z) (omega (arith, l)))

pub dist_mono : (a z w : ℤ) → T (le_z a z) → T (le_z z w) → dist a z ≤ dist a w
dist_mono (pos a) (pos z) (pos w) h k = let l = leb→le z w k in omega (arith, l)
dist_mono (pos a) (pos z) (negsuc w) h k = absurd k
dist_mono (pos a) (negsuc z) w h k = absurd h
dist_mono (negsuc a) (pos z) (pos w) h k = let l = leb→le z w k in omega (arith, l)
dist_mono (negsuc a) (pos z) (negsuc w) h k = absurd k
dist_mono (negsuc a) (negsuc z) (pos w) h k = omega arith
dist_mono (negsuc a) (negsuc z) (negsuc w) h k = let l = leb→le w z k in omega (arith, l)

pub dist_pos : (a z : ℤ) → T (lt_z a z) → 0 < dist a z
dist_pos (pos a) (pos z) h = let l = ltb→lt a z h in omega (arith, l)
dist_pos (pos a) (negsuc z) h = absurd h
dist_pos (negsuc a) (pos z) h = omega arith
dist_pos (negsuc a) (negsuc z) h = let l = ltb→lt z a h in omega (arith, l)

pub weak : (a z : ℤ) → T (lt_z a z) → T (le_z a z)
weak (pos a) (pos z) h = let l = ltb→lt a z h in le→leb a z (omega (arith, l))
weak (pos a) (negsuc z) h = h
weak (negsuc a) (pos z) h = h
weak (negsuc a) (negsuc z) h = let l = ltb→lt z a h in le→leb z a (omega (arith, l))

pub some_gap : (x0 x1 : ℤ) → T (lt_z x0 x1) → 0 < gap (sign x1) (nat_abs x1) (sign x0) (nat_abs x0)
some_gap x0 x1 h = subst (λ (z : Bool × ℕ). 0 < z.1) (sym (apart_up x0 x1 (weak x0 x1 h))) (dist_pos x0 x1 h)

-- a difference that is not negative, and one that is no more than another
pub up_gap : (a z : ℤ) → T (le_z a z) → (apart z a).0 ≡ false
up_gap a z h = ap (λ (y : Bool × ℕ). y.0) (apart_up a z h)

pub less_gap : (a z w : ℤ) → T (le_z a z) → T (le_z a w) → T (le_z z w) → (apart z a).1 ≤ (apart w a).1
less_gap a z w h k l = subst (λ (y : Bool × ℕ). y.1 ≤ (apart w a).1) (sym (apart_up a z h)) (subst (λ (y : Bool × ℕ). dist a z ≤ y.1) (sym (apart_up a w k)) (dist_mono a z w h l))

-- between the knots
module _ (x0 t0 x1 t1 x : ℤ) (r0 : nat_abs x0 ≤ 80000) (r1 : nat_abs x1 ≤ 80000) (r : nat_abs x ≤ 80000) (u0 : nat_abs t0 ≤ 32768) (u1 : nat_abs t1 ≤ 32768)
    (rises : T (lt_z x0 x1)) (after : T (le_z x0 x)) (before : T (le_z x x1)) where
  up : T (le_z x0 x1)
  up = weak x0 x1 rises

  pub inside_up : T (le_z t0 t1) → LiesBetween t0 (interpolated (pair_of x0 t0 x1 t1) (of_int binary64 x)) t1
  inside_up h =
      up_from binary64 (of_int binary64 t0) (of_int binary64 t1) (of_int binary64 x0) (of_int binary64 x1) (of_int binary64 x) (sign t0) (sign t1) (sign x0) (sign x1) (sign x) (nat_abs t0) (nat_abs t1) (nat_abs x0) (nat_abs x1) (nat_abs x)
      (has t0 (omega (arith, u0))) (has t1 (omega (arith, u1))) (has x0 r0) (has x1 r1) (has x r) (plain t0) (plain t1) (some_gap x0 x1 rises) (up_gap x0 x1 up) (up_gap x0 x after) (less_gap x0 x x1 after up before)
      (few x0 t0 x1 t1 r0 r1 u0 u1) (small x0 t0 x1 t1 r0 r1 u0 u1) (near x0 t0 x1 t1 r0 r1 u0 u1) (sizes x0 t0 x1 t1 r0 r1 u0 u1) (up_gap t0 t1 h)

  pub inside_down : T (lt_z t1 t0) → LiesBetween t1 (interpolated (pair_of x0 t0 x1 t1) (of_int binary64 x)) t0
  inside_down h =
      down_from binary64 (of_int binary64 t0) (of_int binary64 t1) (of_int binary64 x0) (of_int binary64 x1) (of_int binary64 x) (sign t0) (sign t1) (sign x0) (sign x1) (sign x) (nat_abs t0) (nat_abs t1) (nat_abs x0) (nat_abs x1) (nat_abs x)
      (has t0 (omega (arith, u0))) (has t1 (omega (arith, u1))) (has x0 r0) (has x1 r1) (has x r) (plain t0) (plain t1) (some_gap x0 x1 rises) (up_gap x0 x1 up) (up_gap x0 x after) (less_gap x0 x x1 after up before)
      (few x0 t0 x1 t1 r0 r1 u0 u1) (small x0 t0 x1 t1 r0 r1 u0 u1) (near x0 t0 x1 t1 r0 r1 u0 u1) (sizes x0 t0 x1 t1 r0 r1 u0 u1) (apart_down t0 t1 h)
