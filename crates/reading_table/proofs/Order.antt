-- The order of signed numbers, where the tests answer it.
use mathlib.Core.Path.{◌≡◌, refl, sym, subst}
use mathlib.Core.Bool.{Bool, true, false, not}
use Prim.Native.Nat.{ℕ}
use native.Mathlib.Omega.{arith}
use lib.Dec.{T, ltb→lt, le→leb, lt→ltb, nleb→lt, nltb→le}
use lib.IntN.{ℤ, pos, negsuc}
use lib.Signed.{le_z, lt_z, ◌≤ℤ◌, ◌<ℤ◌, <ℤ-≤ℤ_trans, clash_ℤ}

-- not at most: above
pub not_le : (a b : ℤ) → le_z a b ≡ false → T (lt_z b a)
not_le (pos a) (pos b) e = lt→ltb b a (nleb→lt a b (subst (λ (t : Bool). T (not t)) (sym e) tt))
not_le (pos a) (negsuc b) e = tt
not_le (negsuc a) (pos b) e = let z : ◌≡◌ {A = ℕ} 0 1 = cc in omega (arith, z)
not_le (negsuc a) (negsuc b) e = lt→ltb a b (nleb→lt b a (subst (λ (t : Bool). T (not t)) (sym e) tt))

pub lt_le : (a b : ℤ) → T (lt_z a b) → T (le_z a b)
lt_le (pos a) (pos z) h = let l = ltb→lt a z h in le→leb a z (omega (arith, l))
lt_le (pos a) (negsuc z) h = h
lt_le (negsuc a) (pos z) h = h
lt_le (negsuc a) (negsuc z) h = let l = ltb→lt z a h in le→leb z a (omega (arith, l))

-- not below: at most
pub not_lt : (a b : ℤ) → lt_z a b ≡ false → T (le_z b a)
not_lt (pos a) (pos b) e = le→leb b a (nltb→le a b (subst (λ (t : Bool). T (not t)) (sym e) tt))
not_lt (pos a) (negsuc b) e = tt
not_lt (negsuc a) (pos b) e = let z : ◌≡◌ {A = ℕ} 0 1 = cc in absurd (clash z)
  where
    clash : ◌≡◌ {A = ℕ} 0 1 → ⊥
    clash z = omega (arith, z)
not_lt (negsuc a) (negsuc b) e = le→leb a b (nltb→le b a (subst (λ (t : Bool). T (not t)) (sym e) tt))

pub le_trans : (a b c : ℤ) → T (le_z a b) → T (le_z b c) → T (le_z a c)
le_trans a b c h k = go (lt_z c a) refl
  where
    go : (t : Bool) → lt_z c a ≡ t → T (le_z a c)
    go true e =
        let l : c <ℤ a = record { lt = subst T (sym e) tt } in
        let m : a ≤ℤ b = record { le = h } in
        let n : b ≤ℤ c = record { le = k } in
        clash_ℤ (<ℤ-≤ℤ_trans l m) n
    go false e = not_lt c a e

-- at most: not below
pub no_lt : (a b : ℤ) → T (le_z b a) → lt_z a b ≡ false
no_lt a b h = go (lt_z a b) refl
  where
    go : (t : Bool) → lt_z a b ≡ t → t ≡ false
    go false e = refl
    go true e =
        let l : a <ℤ b = record { lt = subst T (sym e) tt } in
        let m : b ≤ℤ a = record { le = h } in
        clash_ℤ l m
