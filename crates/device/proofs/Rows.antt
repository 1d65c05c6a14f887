-- The table of parts: past its end, and the sizes of its rows.
use mathlib.Core.Path.{◌≡◌, refl, sym, ap, subst}
use mathlib.Core.Bool.{false}
use Prim.Native.Nat.{ℕ, zero, suc, ◌<◌, ◌/◌}
use native.Mathlib.Omega.{arith}
use lib.Dec.{eqb}
use borrow.Author.Tests.{ne_eqb}
use Rattle.device.specs.declared.Shape.{Shape}
use Rattle.device.specs.Parts.{more_blocks, row_of, in_words, size_in}

-- a number that is not another
other : (n k : ℕ) → k < n → eqb n k ≡ false
other n k h = ne_eqb n k (λ (e : n ≡ k). (omega arith))

-- every number above 7 has the row of 8
pub row_past : (n : ℕ) → 7 < n → row_of n ≡ more_blocks 131072 false 0x4471
unfolding row_of
row_past n h =
    simp (other n 1 (omega arith), other n 2 (omega arith), other n 3 (omega arith), other n 4 (omega arith), other n 5 (omega arith), other n 6 (omega arith), other n 7 (omega arith))

-- what holds of each row of the table, and of the row of 8 for every number above 7, holds of any number's row
pub by_rows : (P : Shape → Type 0) → P (row_of 0) → P (row_of 1) → P (row_of 2) → P (row_of 3) → P (row_of 4) → P (row_of 5) → P (row_of 6) → P (row_of 7) → P (more_blocks 131072 false 0x4471) → (n : ℕ) → P (row_of n)
by_rows P a b c d e f g h z zero = a
by_rows P a b c d e f g h z (suc zero) = b
by_rows P a b c d e f g h z (suc (suc zero)) = c
by_rows P a b c d e f g h z (suc (suc (suc zero))) = d
by_rows P a b c d e f g h z (suc (suc (suc (suc zero)))) = e
by_rows P a b c d e f g h z (suc (suc (suc (suc (suc zero))))) = f
by_rows P a b c d e f g h z (suc (suc (suc (suc (suc (suc zero)))))) = g
by_rows P a b c d e f g h z (suc (suc (suc (suc (suc (suc (suc zero))))))) = h
by_rows P a b c d e f g h z (suc (suc (suc (suc (suc (suc (suc (suc n)))))))) = subst P (sym (row_past (suc (suc (suc (suc (suc (suc (suc (suc n)))))))) (omega arith))) z

-- a row in words has half as many units
pub halved : (n : ℕ) → size_in (in_words (row_of n)) ≡ size_in (row_of n) / 2
unfolding row_of in_words size_in
halved = by_rows (λ (s : Shape). size_in (in_words s) ≡ size_in s / 2) refl refl refl refl refl refl refl refl refl

-- the sizes of the rows, two by two
pub size_2 : (n : ℕ) → 0 < n → n < 3 → size_in (row_of n) ≡ 131072
unfolding row_of size_in
size_2 zero l h = absurd (omega arith)
size_2 (suc zero) l h = refl
size_2 (suc (suc zero)) l h = refl
size_2 (suc (suc (suc n))) l h = absurd (omega arith)

pub size_4 : (n : ℕ) → 2 < n → n < 5 → size_in (row_of n) ≡ 16384
unfolding row_of size_in
size_4 zero l h = absurd (omega arith)
size_4 (suc zero) l h = absurd (omega arith)
size_4 (suc (suc zero)) l h = absurd (omega arith)
size_4 (suc (suc (suc zero))) l h = refl
size_4 (suc (suc (suc (suc zero)))) l h = refl
size_4 (suc (suc (suc (suc (suc n))))) l h = absurd (omega arith)

pub size_6 : (n : ℕ) → 4 < n → n < 7 → size_in (row_of n) ≡ 262144
unfolding row_of size_in
size_6 zero l h = absurd (omega arith)
size_6 (suc zero) l h = absurd (omega arith)
size_6 (suc (suc zero)) l h = absurd (omega arith)
size_6 (suc (suc (suc zero))) l h = absurd (omega arith)
size_6 (suc (suc (suc (suc zero)))) l h = absurd (omega arith)
size_6 (suc (suc (suc (suc (suc zero))))) l h = refl
size_6 (suc (suc (suc (suc (suc (suc zero)))))) l h = refl
size_6 (suc (suc (suc (suc (suc (suc (suc n))))))) l h = absurd (omega arith)

pub size_8 : (n : ℕ) → 6 < n → size_in (row_of n) ≡ 524288
unfolding row_of size_in
size_8 zero l = absurd (omega arith)
size_8 (suc zero) l = absurd (omega arith)
size_8 (suc (suc zero)) l = absurd (omega arith)
size_8 (suc (suc (suc zero))) l = absurd (omega arith)
size_8 (suc (suc (suc (suc zero)))) l = absurd (omega arith)
size_8 (suc (suc (suc (suc (suc zero))))) l = absurd (omega arith)
size_8 (suc (suc (suc (suc (suc (suc zero)))))) l = absurd (omega arith)
size_8 (suc (suc (suc (suc (suc (suc (suc zero))))))) l = refl
size_8 (suc (suc (suc (suc (suc (suc (suc (suc n)))))))) l = ap size_in (row_past (suc (suc (suc (suc (suc (suc (suc (suc n)))))))) (omega arith))
