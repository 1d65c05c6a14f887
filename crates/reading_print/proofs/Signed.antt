-- The size of a signed number.
use Rattle.std.proofs.Common.{◌≡◌, ℕ, suc, ◌+◌, ◌-◌, ◌^◌, ◌<◌, Bool, true, false, cond, T, ℤ, pos, negsuc, ◌-ℤ◌, nat_abs, sym, refl, ap, ◌∙◌, subst, lt_trans, arith, lit<, w16, w32, Fits, SFits, to_z, of_z, ltb-true, le-ltb}
use Rattle.common.proofs.Choice.{unlike}
use lib.Signed.{lt_z, non_neg, mag}
use mir.ValLaws.{to_z-of_z}

-- -1 - z, for z below 0
less : (z : ℤ) → lt_z z (pos 0) ≡ true → negsuc 0 -ℤ z ≡ pos (nat_abs z - 1)
less (pos n) h = absurd (let l : n < 0 = ltb-true n 0 h in omega (arith, l))
less (negsuc n) h = ap (λ (b : Bool). cond b (negsuc (1 - suc (suc n))) (pos (suc n - 1))) (le-ltb (suc n) 1 (omega arith))

some : (z : ℤ) → lt_z z (pos 0) ≡ true → (nat_abs z - 1 ≡ mag z) × (nat_abs z - 1 + 1 ≡ nat_abs z)
some (pos n) h = absurd (let l : n < 0 = ltb-true n 0 h in omega (arith, l))
some (negsuc n) h = (let q : suc n - 1 ≡ n = omega arith in q, let q : suc n - 1 + 1 ≡ suc n = omega arith in q)

plain : (z : ℤ) → lt_z z (pos 0) ≡ false → (z ≡ pos (nat_abs z)) × (nat_abs z ≡ mag z)
plain (pos n) h = (refl, refl)
plain (negsuc n) h = absurd (unlike h)

-- below 0: the difference, as the machine has it
module _ (z : ℤ) (f : SFits w32 z) (h : lt_z z (pos 0) ≡ true) where
  half : nat_abs z - 1 < 2 ^ 31
  half = subst (λ (n : ℕ). n < 2 ^ 31) (sym (some z h).0) f.sfits

  is : negsuc 0 -ℤ to_z w32 (of_z w32 z) ≡ pos (nat_abs z - 1)
  is = ap (λ (y : ℤ). negsuc 0 -ℤ y) (to_z-of_z w32 z f) ∙ less z h

  pub less_fits : SFits w32 (negsuc 0 -ℤ to_z w32 (of_z w32 z))
  less_fits = subst (SFits w32) (sym is) (record { sfits = half })

  pub held : to_z w32 (of_z w32 (negsuc 0 -ℤ to_z w32 (of_z w32 z))) ≡ pos (nat_abs z - 1)
  held = to_z-of_z w32 (negsuc 0 -ℤ to_z w32 (of_z w32 z)) less_fits ∙ is

  pub cast_fits : T (non_neg (to_z w32 (of_z w32 (negsuc 0 -ℤ to_z w32 (of_z w32 z))))) × Fits w32 (nat_abs (to_z w32 (of_z w32 (negsuc 0 -ℤ to_z w32 (of_z w32 z)))))
  cast_fits = subst (λ (y : ℤ). T (non_neg y) × Fits w32 (nat_abs y)) (sym held) (tt, record { fits = lt_trans half (lit< tt) })

  pub add_fits : Fits w32 (nat_abs (to_z w32 (of_z w32 (negsuc 0 -ℤ to_z w32 (of_z w32 z)))) + 1)
  add_fits = subst (λ (y : ℤ). Fits w32 (nat_abs y + 1)) (sym held) (record { fits = omega (arith, half) })

  pub size_is : nat_abs (to_z w32 (of_z w32 (negsuc 0 -ℤ to_z w32 (of_z w32 z)))) + 1 ≡ nat_abs z
  size_is = ap (λ (y : ℤ). nat_abs y + 1) held ∙ (some z h).1

-- else as it is
module _ (z : ℤ) (f : SFits w32 z) (h : lt_z z (pos 0) ≡ false) where
  pub plain_fits : T (non_neg (to_z w32 (of_z w32 z))) × Fits w32 (nat_abs (to_z w32 (of_z w32 z)))
  plain_fits = subst (λ (y : ℤ). T (non_neg y) × Fits w32 (nat_abs y)) (sym (to_z-of_z w32 z f ∙ (plain z h).0)) (tt, record { fits = subst (λ (n : ℕ). n < 2 ^ 32) (sym (plain z h).1) (lt_trans f.sfits (lit< tt)) })

  pub plain_is : nat_abs (to_z w32 (of_z w32 z)) ≡ nat_abs z
  plain_is = ap nat_abs (to_z-of_z w32 z f)

-- 16 bits in 32
pub wider : (z : ℤ) → SFits w16 z → SFits w32 (to_z w16 (of_z w16 z))
wider z f = subst (SFits w32) (sym (to_z-of_z w16 z f)) (record { sfits = lt_trans f.sfits (lit< tt) })
