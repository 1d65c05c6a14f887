-- Laws of the words that bytes make.
use Prim.Native.Nat.{ℕ, zero, suc, ◌*◌, ◌≤◌, ◌<◌}
use mathlib.Core.Path.{◌≡◌, refl, ap}
use mathlib.Core.List.{List, [], ◌∷◌, ◌++◌}
use native.Mathlib.Omega.{arith}
use native.Mathlib.Nat.{not-suc-le-zero, le_of_suc-le-suc}
use lib.ListN.{length, get_or, take, drop, set, replicate}
use lib.Bits.{bit_and, bit_or, and_block, or_block}
use Rattle.units.specs.Units.{word_of, pairs, unpaired}

-- twice, counted up: computes under a successor
abbrev pub dbl : ℕ → ℕ
dbl zero = zero
dbl (suc i) = suc (suc (dbl i))

pub dbl_is : (i : ℕ) → dbl i ≡ 2 * i
dbl_is zero = refl
dbl_is (suc i) = let h = dbl_is i in omega arith

pub get_dbl : (xs : List ℕ) (i : ℕ) → suc (dbl i) < length xs → get_or (pairs xs) i 0 ≡ word_of (get_or xs (dbl i) 0) (get_or xs (suc (dbl i)) 0)
get_dbl [] i h = absurd (not-suc-le-zero h)
get_dbl (x ∷ []) i h = absurd (not-suc-le-zero (le_of_suc-le-suc h))
get_dbl (x ∷ y ∷ zs) zero h = refl
get_dbl (x ∷ y ∷ zs) (suc i) h = get_dbl zs i (le_of_suc-le-suc (le_of_suc-le-suc h))

pub set_dbl : (xs : List ℕ) (i low high : ℕ) → suc (dbl i) < length xs → pairs (set (set xs (dbl i) low) (suc (dbl i)) high) ≡ set (pairs xs) i (word_of low high)
set_dbl [] i low high h = absurd (not-suc-le-zero h)
set_dbl (x ∷ []) i low high h = absurd (not-suc-le-zero (le_of_suc-le-suc h))
set_dbl (x ∷ y ∷ zs) zero low high h = refl
set_dbl (x ∷ y ∷ zs) (suc i) low high h = ap (λ (t : List ℕ). word_of x y ∷ t) (set_dbl zs i low high (le_of_suc-le-suc (le_of_suc-le-suc h)))

pub long : (xs : List ℕ) (k : ℕ) → length xs ≡ dbl k → length (pairs xs) ≡ k
long [] zero e = refl
long [] (suc k) e = absurd (omega arith)
long (x ∷ []) zero e = absurd (omega arith)
long (x ∷ []) (suc k) e = absurd (omega arith)
long (x ∷ y ∷ zs) zero e = absurd (omega arith)
long (x ∷ y ∷ zs) (suc k) e = ap suc (long zs k (omega arith))

pub joined : (A B : List ℕ) (k : ℕ) → length A ≡ dbl k → pairs (A ++ B) ≡ pairs A ++ pairs B
joined [] B k e = refl
joined (x ∷ []) B zero e = absurd (omega arith)
joined (x ∷ []) B (suc k) e = absurd (omega arith)
joined (x ∷ y ∷ A) B zero e = absurd (omega arith)
joined (x ∷ y ∷ A) B (suc k) e = ap (λ (t : List ℕ). word_of x y ∷ t) (joined A B k (omega arith))

pub taken : (xs : List ℕ) (k : ℕ) → pairs (take (dbl k) xs) ≡ take k (pairs xs)
taken [] zero = refl
taken [] (suc k) = refl
taken (x ∷ []) zero = refl
taken (x ∷ []) (suc k) = refl
taken (x ∷ y ∷ zs) zero = refl
taken (x ∷ y ∷ zs) (suc k) = ap (λ (t : List ℕ). word_of x y ∷ t) (taken zs k)

pub dropped : (xs : List ℕ) (k : ℕ) → pairs (drop (dbl k) xs) ≡ drop k (pairs xs)
dropped [] zero = refl
dropped [] (suc k) = refl
dropped (x ∷ []) zero = refl
dropped (x ∷ []) (suc k) = refl
dropped (x ∷ y ∷ zs) zero = refl
dropped (x ∷ y ∷ zs) (suc k) = dropped zs k

-- the byte that is in no word stays, whatever is done to whole words
pub unpaired_set : (xs : List ℕ) (i low high : ℕ) → suc (dbl i) < length xs → unpaired (set (set xs (dbl i) low) (suc (dbl i)) high) ≡ unpaired xs
unpaired_set [] i low high h = absurd (not-suc-le-zero h)
unpaired_set (x ∷ []) i low high h = absurd (not-suc-le-zero (le_of_suc-le-suc h))
unpaired_set (x ∷ y ∷ zs) zero low high h = refl
unpaired_set (x ∷ y ∷ zs) (suc i) low high h = unpaired_set zs i low high (le_of_suc-le-suc (le_of_suc-le-suc h))

pub unpaired_joined : (A B : List ℕ) (k : ℕ) → length A ≡ dbl k → unpaired (A ++ B) ≡ unpaired B
unpaired_joined [] B k e = refl
unpaired_joined (x ∷ []) B zero e = absurd (omega arith)
unpaired_joined (x ∷ []) B (suc k) e = absurd (omega arith)
unpaired_joined (x ∷ y ∷ A) B zero e = absurd (omega arith)
unpaired_joined (x ∷ y ∷ A) B (suc k) e = unpaired_joined A B k (omega arith)

pub unpaired_dropped : (xs : List ℕ) (k : ℕ) → dbl k ≤ length xs → unpaired (drop (dbl k) xs) ≡ unpaired xs
unpaired_dropped xs zero h = refl
unpaired_dropped [] (suc k) h = absurd (not-suc-le-zero h)
unpaired_dropped (x ∷ []) (suc k) h = absurd (not-suc-le-zero (le_of_suc-le-suc h))
unpaired_dropped (x ∷ y ∷ zs) (suc k) h = unpaired_dropped zs k (le_of_suc-le-suc (le_of_suc-le-suc h))

-- bytes of ones are words of ones, an odd last byte or not
pub blank : (n : ℕ) → pairs (replicate (dbl n) 255) ≡ replicate n 65535
blank zero = refl
blank (suc n) = ap (λ (t : List ℕ). 65535 ∷ t) (blank n)

pub blank_odd : (n : ℕ) → pairs (replicate (suc (dbl n)) 255) ≡ replicate n 65535
blank_odd zero = refl
blank_odd (suc n) = ap (λ (t : List ℕ). 65535 ∷ t) (blank_odd n)

-- AND and OR of words, byte by byte
pub and_word : (a b r s : ℕ) → r < 256 → s < 256 → bit_and (word_of r a) (word_of s b) ≡ word_of (bit_and r s) (bit_and a b)
and_word a b r s p q = and_block 8 a b r s p q

pub or_word : (a b r s : ℕ) → r < 256 → s < 256 → bit_or (word_of r a) (word_of s b) ≡ word_of (bit_or r s) (bit_or a b)
or_word a b r s p q = or_block 8 a b r s p q
