-- The whole numbers that an interpolation multiplies, and that their product is small.
use mathlib.Core.Path.{◌≡◌, refl, sym, subst}
use mathlib.Core.Bool.{Bool, true, false, cond}
use mathlib.Core.List.{List}
use Prim.Native.Nat.{ℕ, zero, suc, ◌+◌, ◌-◌, ◌*◌, ◌^◌, ◌≤◌, ◌<◌}
use native.Mathlib.Nat.{mul-le-mul}
use native.Mathlib.Omega.{arith}
use lib.Dec.{T, ltb, lit<}
use lib.IntN.{ℤ, pos, negsuc, neg_ℤ, nat_abs, ◌+ℤ◌, ◌-ℤ◌, ◌*ℤ◌}
use lib.Signed.{le_z}
use Rattle.reading_table.specs.Table.{knots, volts_of, tenths_of}
use Rattle.reading_table.proofs.Knots.{tenths_size}
use Rattle.reading_claims.specs.Tables.{Table}
use Rattle.reading_claims.proofs.Judged.{size}
use Rattle.reading_claims.proofs.Bounds.{small}

-- the size of a sum, of a difference and of a product
sub_size : (a b : ℕ) (t : Bool) → nat_abs (cond t (negsuc (b - suc a)) (pos (a - b))) ≤ suc (a + b)
sub_size a b true = omega arith
sub_size a b false = omega arith

less_size : (a b : ℕ) (t : Bool) → ltb a b ≡ t → nat_abs (cond t (negsuc (b - suc a)) (pos (a - b))) ≤ a + b + 1
less_size a b t e = let h = sub_size a b t in omega (arith, h)

neg_size : (z : ℤ) → nat_abs (neg_ℤ z) ≡ nat_abs z
neg_size (pos zero) = refl
neg_size (pos (suc n)) = refl
neg_size (negsuc n) = refl

sum_size : (a b : ℤ) → nat_abs (a +ℤ b) ≤ nat_abs a + nat_abs b + 1
sum_size (pos a) (pos b) = omega arith
sum_size (pos a) (negsuc b) = less_size a (suc b) (ltb a (suc b)) refl
sum_size (negsuc a) (pos b) = let h = less_size b (suc a) (ltb b (suc a)) refl in omega (arith, h)
sum_size (negsuc a) (negsuc b) = omega arith

difference_size : (a b : ℤ) → nat_abs (a -ℤ b) ≤ nat_abs a + nat_abs b + 1
difference_size a b = subst (λ (n : ℕ). nat_abs (a -ℤ b) ≤ nat_abs a + n + 1) (neg_size b) (sum_size a (neg_ℤ b))

product_size : (a b : ℤ) → nat_abs (a *ℤ b) ≡ nat_abs a * nat_abs b
product_size (pos a) (pos b) = refl
product_size (pos a) (negsuc b) = neg_size (pos (a * suc b))
product_size (negsuc a) (pos b) = neg_size (pos (suc a * b))
product_size (negsuc a) (negsuc b) = refl

-- the product of a pair's difference of temperatures and of how far x is above its lower knot
module _ (p : List ℕ) (t : Table p) (i : ℕ) (h : i + 1 < knots p) (x : ℤ) (a : T (le_z (volts_of p i) x)) (b : T (le_z x (volts_of p (i + 1)))) where
  pub few_bits : nat_abs ((tenths_of p (i + 1) -ℤ tenths_of p i) *ℤ (x -ℤ volts_of p i)) < 2 ^ 53
  few_bits =
      let g : nat_abs (tenths_of p (i + 1) -ℤ tenths_of p i) ≤ 65537 = omega (arith, difference_size (tenths_of p (i + 1)) (tenths_of p i), tenths_size p i, tenths_size p (i + 1)) in
      let w : nat_abs (x -ℤ volts_of p i) ≤ 160001 = omega (arith, difference_size x (volts_of p i), small p t i h x a b, size p t i (omega (arith, h))) in
      let m : nat_abs (tenths_of p (i + 1) -ℤ tenths_of p i) * nat_abs (x -ℤ volts_of p i) ≤ 65537 * 160001 = mul-le-mul g w in
      let k : 65537 * 160001 < 2 ^ 53 = lit< tt in
      subst (λ (n : ℕ). n < 2 ^ 53) (sym (product_size (tenths_of p (i + 1) -ℤ tenths_of p i) (x -ℤ volts_of p i))) (omega (arith, m, k))
