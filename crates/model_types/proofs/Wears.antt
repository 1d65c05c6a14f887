-- The counts of erases: what one more erase makes of each, and that they stop.
use mathlib.Core.Path.{◌≡◌, refl, ◌∙◌}
use mathlib.Core.Bool.{Bool, true, false}
use Prim.Native.Nat.{ℕ, zero, suc, ◌+◌, ◌≤◌, ◌<◌, min}
use native.Mathlib.Omega.{arith}
use lib.Dec.{ltb}
use borrow.Author.Tests.{ltb-true, ltb-false}
use Rattle.std.specs.Prelude.{if◌then◌else◌}
use Rattle.model_types.specs.declared.Wear.{Wear}
use Rattle.model_types.specs.Counts.{stop, unworn, count_of, raised, raised_at, worn}

-- one of seven
pub among : (P : ℕ → Type 0) → P 0 → P 1 → P 2 → P 3 → P 4 → P 5 → P 6 → (j : ℕ) → j < 7 → P j
among P a b c d e f g zero h = a
among P a b c d e f g (suc zero) h = b
among P a b c d e f g (suc (suc zero)) h = c
among P a b c d e f g (suc (suc (suc zero))) h = d
among P a b c d e f g (suc (suc (suc (suc zero)))) h = e
among P a b c d e f g (suc (suc (suc (suc (suc zero))))) h = f
among P a b c d e f g (suc (suc (suc (suc (suc (suc zero)))))) h = g
among P a b c d e f g (suc (suc (suc (suc (suc (suc (suc j))))))) h = absurd (omega arith)

-- one more erase of block k counts at block k alone
pub count_worn : (w : Wear) (k j : ℕ) → j < 7 → count_of (worn w k) j ≡ raised_at j k (count_of w j)
unfolding count_of
count_worn w k = among (λ (j : ℕ). count_of (worn w k) j ≡ raised_at j k (count_of w j)) refl refl refl refl refl refl refl

-- a fresh device has zeros
pub count_unworn : (k : ℕ) → k < 7 → count_of unworn k ≡ 0
unfolding count_of
count_unworn = among (λ (j : ℕ). count_of unworn j ≡ 0) refl refl refl refl refl refl refl

-- the seven counts are all that there is
pub same_wear : (v w : Wear) → ((k : ℕ) → k < 7 → count_of v k ≡ count_of w k) → v ≡ w
unfolding count_of
same_wear v w h =
    λ i. record {
      block0 = h 0 (omega arith) i;
      block1 = h 1 (omega arith) i;
      block2 = h 2 (omega arith) i;
      block3 = h 3 (omega arith) i;
      block4 = h 4 (omega arith) i;
      block5 = h 5 (omega arith) i;
      block6 = h 6 (omega arith) i;
    }

-- one more, of a count that the device can have, up to the stop
pub raised_is : (n : ℕ) → n ≤ stop → raised n ≡ min (n + 1) stop
unfolding raised
raised_is n h = go (ltb n stop) refl
  where
    go : (b : Bool) → ltb n stop ≡ b → (if b then n + 1 else n) ≡ min (n + 1) stop
    go true e = let l = ltb-true n stop e in omega arith
    go false e = let l = ltb-false n stop e in omega arith

-- .. with what came before it
pub raised_min : (m n : ℕ) → m ≡ min n stop → raised m ≡ min (n + 1) stop
raised_min m n e = raised_is m (omega arith) ∙ omega arith
