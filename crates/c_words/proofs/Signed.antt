-- The bits of a signed number, below 0 and else.
use mathlib.Core.Path.{◌≡◌, refl, ap}
use mathlib.Core.Bool.{true, false}
use Prim.Native.Nat.{ℕ, suc, ◌-◌, ◌<◌}
use native.Mathlib.Omega.{arith}
use lib.IntN.{ℤ, pos, negsuc, nat_abs}
use lib.Signed.{lt_z}
use borrow.Author.Tests.{ltb-true}
use Rattle.common.proofs.Choice.{unlike}
use Rattle.c_words.specs.Knots.{bits_of}

pub bits_under : (z : ℤ) → lt_z z (pos 0) ≡ true → 4294967295 - (nat_abs z - 1) ≡ bits_of z
bits_under (pos n) h = absurd (let l : n < 0 = ltb-true n 0 h in omega (arith, l))
bits_under (negsuc n) h = ap (λ (m : ℕ). 4294967295 - m) (let q : suc n - 1 ≡ n = omega arith in q)

pub bits_plain : (z : ℤ) → lt_z z (pos 0) ≡ false → nat_abs z ≡ bits_of z
bits_plain (pos n) h = refl
bits_plain (negsuc n) h = absurd (unlike h)
