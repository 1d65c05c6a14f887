-- The table is what the parts' descriptions give.
use mathlib.Core.Path.{◌≡◌, refl, sym, ap, ◌∙◌}
use mathlib.Core.Bool.{Bool, true, false}
use Prim.Native.Nat.{ℕ, zero, suc, ◌<◌}
use native.Mathlib.Omega.{arith}
use lib.Dec.{eqb}
use borrow.Author.Tests.{ne_eqb, lt-ltb}
use Rattle.std.specs.Prelude.{if◌then◌else◌}
use Rattle.device.specs.declared.Part.{Part}
use Rattle.device.specs.declared.Span.{Span}
use Rattle.device.specs.Parts.{row_of, shape_of, is_large, unknown_part, size_in, length_in, offset_in, start_in, length_of, start_of}
use Rattle.c_blocks.specs.Table.{lying, four_at, five_at, seven_at, block_at}

-- a part in byte mode
abbrev in_bytes : ℕ → Part
in_bytes n = record { number = n; word = false }

-- where the description of a part has its block k; nothing where there is no part, or no such block
abbrev pub described : ℕ → ℕ → Span
described n k =
    if unknown_part (in_bytes n) then lying 0 0
    else if eqb (length_of (in_bytes n) k) 0 then lying 0 0
    else lying (start_of (in_bytes n) k) (length_of (in_bytes n) k)

-- a number that is not another
other : (n k : ℕ) → k < n → eqb n k ≡ false
other n k h = ne_eqb n k (λ (e : n ≡ k). (omega arith))

-- no part has more than seven blocks
four_past : (k : ℕ) → 6 < k → (a b c d boot parameter main : ℕ) → four_at k a b c d boot parameter main ≡ lying 0 0
unfolding four_at
four_past k h a b c d boot parameter main = simp (other k 0 (omega arith), other k 1 (omega arith), other k 2 (omega arith), other k 3 (omega arith))

five_past : (k : ℕ) → 6 < k → (a b c d e : ℕ) → five_at k a b c d e ≡ lying 0 0
unfolding five_at
five_past k h a b c d e =
    simp (other k 0 (omega arith), other k 1 (omega arith), other k 2 (omega arith), other k 3 (omega arith), other k 4 (omega arith))

seven_past : (k : ℕ) → 6 < k → (a b c d e f g : ℕ) → seven_at k a b c d e f g ≡ lying 0 0
unfolding seven_at
seven_past k h a b c d e f g =
    simp (other k 0 (omega arith), other k 1 (omega arith), other k 2 (omega arith), other k 3 (omega arith), other k 4 (omega arith), other k 5 (omega arith), other k 6 (omega arith))

-- what holds of the first seven, and of every number past them, holds of any
by_blocks : (P : ℕ → Type 0) → P 0 → P 1 → P 2 → P 3 → P 4 → P 5 → P 6 → ((k : ℕ) → P (suc (suc (suc (suc (suc (suc (suc k)))))))) → (k : ℕ) → P k
by_blocks P a b c d e f g h zero = a
by_blocks P a b c d e f g h (suc zero) = b
by_blocks P a b c d e f g h (suc (suc zero)) = c
by_blocks P a b c d e f g h (suc (suc (suc zero))) = d
by_blocks P a b c d e f g h (suc (suc (suc (suc zero)))) = e
by_blocks P a b c d e f g h (suc (suc (suc (suc (suc zero))))) = f
by_blocks P a b c d e f g h (suc (suc (suc (suc (suc (suc zero)))))) = g
by_blocks P a b c d e f g h (suc (suc (suc (suc (suc (suc (suc k))))))) = h k

-- part by part
part_1 : (k : ℕ) → four_at k 122880 118784 114688 0 8192 4096 114688 ≡ described 1 k
unfolding four_at unknown_part is_large length_of start_of shape_of row_of size_in length_in offset_in start_in
part_1 =
    by_blocks (λ (k : ℕ). four_at k 122880 118784 114688 0 8192 4096 114688 ≡ described 1 k) refl refl refl refl refl refl refl
    (λ k. four_past (suc (suc (suc (suc (suc (suc (suc k))))))) (omega arith) 122880 118784 114688 0 8192 4096 114688)

part_2 : (k : ℕ) → four_at k 0 8192 12288 16384 8192 4096 114688 ≡ described 2 k
unfolding four_at unknown_part is_large length_of start_of shape_of row_of size_in length_in offset_in start_in
part_2 =
    by_blocks (λ (k : ℕ). four_at k 0 8192 12288 16384 8192 4096 114688 ≡ described 2 k) refl refl refl refl refl refl refl
    (λ k. four_past (suc (suc (suc (suc (suc (suc (suc k))))))) (omega arith) 0 8192 12288 16384 8192 4096 114688)

part_3 : (k : ℕ) → four_at k 15360 14848 14336 0 1024 512 14336 ≡ described 3 k
unfolding four_at unknown_part is_large length_of start_of shape_of row_of size_in length_in offset_in start_in
part_3 =
    by_blocks (λ (k : ℕ). four_at k 15360 14848 14336 0 1024 512 14336 ≡ described 3 k) refl refl refl refl refl refl refl
    (λ k. four_past (suc (suc (suc (suc (suc (suc (suc k))))))) (omega arith) 15360 14848 14336 0 1024 512 14336)

part_4 : (k : ℕ) → four_at k 0 1024 1536 2048 1024 512 14336 ≡ described 4 k
unfolding four_at unknown_part is_large length_of start_of shape_of row_of size_in length_in offset_in start_in
part_4 =
    by_blocks (λ (k : ℕ). four_at k 0 1024 1536 2048 1024 512 14336 ≡ described 4 k) refl refl refl refl refl refl refl
    (λ k. four_past (suc (suc (suc (suc (suc (suc (suc k))))))) (omega arith) 0 1024 1536 2048 1024 512 14336)

part_5 : (k : ℕ) → five_at k 245760 237568 229376 131072 0 ≡ described 5 k
unfolding five_at unknown_part is_large length_of start_of shape_of row_of size_in length_in offset_in start_in
part_5 =
    by_blocks (λ (k : ℕ). five_at k 245760 237568 229376 131072 0 ≡ described 5 k) refl refl refl refl refl refl refl
    (λ k. five_past (suc (suc (suc (suc (suc (suc (suc k))))))) (omega arith) 245760 237568 229376 131072 0)

part_6 : (k : ℕ) → five_at k 0 16384 24576 32768 131072 ≡ described 6 k
unfolding five_at unknown_part is_large length_of start_of shape_of row_of size_in length_in offset_in start_in
part_6 =
    by_blocks (λ (k : ℕ). five_at k 0 16384 24576 32768 131072 ≡ described 6 k) refl refl refl refl refl refl refl
    (λ k. five_past (suc (suc (suc (suc (suc (suc (suc k))))))) (omega arith) 0 16384 24576 32768 131072)

part_7 : (k : ℕ) → seven_at k 507904 499712 491520 393216 262144 131072 0 ≡ described 7 k
unfolding seven_at unknown_part is_large length_of start_of shape_of row_of size_in length_in offset_in start_in
part_7 =
    by_blocks (λ (k : ℕ). seven_at k 507904 499712 491520 393216 262144 131072 0 ≡ described 7 k) refl refl refl refl refl refl refl
    (λ k. seven_past (suc (suc (suc (suc (suc (suc (suc k))))))) (omega arith) 507904 499712 491520 393216 262144 131072 0)

part_8 : (k : ℕ) → seven_at k 0 16384 24576 32768 131072 262144 393216 ≡ described 8 k
unfolding seven_at unknown_part is_large length_of start_of shape_of row_of size_in length_in offset_in start_in
part_8 =
    by_blocks (λ (k : ℕ). seven_at k 0 16384 24576 32768 131072 262144 393216 ≡ described 8 k) refl refl refl refl refl refl refl
    (λ k. seven_past (suc (suc (suc (suc (suc (suc (suc k))))))) (omega arith) 0 16384 24576 32768 131072 262144 393216)

-- a number past the last part
none_past : (n k : ℕ) → 8 < n → block_at n k ≡ described n k
unfolding block_at unknown_part
none_past n k h =
    simp (other n 0 (omega arith), other n 1 (omega arith), other n 2 (omega arith), other n 3 (omega arith), other n 4 (omega arith), other n 5 (omega arith), other n 6 (omega arith), other n 7 (omega arith), other n 8 (omega arith), lt-ltb 8 n h)

-- for code: the table is what the descriptions give
pub blocks_are : (n k : ℕ) → block_at n k ≡ described n k
unfolding block_at unknown_part
blocks_are zero k = refl
blocks_are (suc zero) k = part_1 k
blocks_are (suc (suc zero)) k = part_2 k
blocks_are (suc (suc (suc zero))) k = part_3 k
blocks_are (suc (suc (suc (suc zero)))) k = part_4 k
blocks_are (suc (suc (suc (suc (suc zero))))) k = part_5 k
blocks_are (suc (suc (suc (suc (suc (suc zero)))))) k = part_6 k
blocks_are (suc (suc (suc (suc (suc (suc (suc zero))))))) k = part_7 k
blocks_are (suc (suc (suc (suc (suc (suc (suc (suc zero)))))))) k = part_8 k
blocks_are (suc (suc (suc (suc (suc (suc (suc (suc (suc n))))))))) k = none_past (suc (suc (suc (suc (suc (suc (suc (suc (suc n))))))))) k (omega arith)
