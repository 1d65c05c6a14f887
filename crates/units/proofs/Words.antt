-- A word read, written and programmed by its two bytes; words laid over words.
use Prim.Native.Nat.{ℕ, zero, suc, ◌+◌, ◌*◌, ◌/◌, ◌%◌, ◌≤◌, ◌<◌, min}
use mathlib.Core.Path.{◌≡◌, refl, sym, ap, ap₂, subst, ◌∙◌}
use mathlib.Core.List.{List, [], ◌∷◌, ◌++◌}
use native.Mathlib.Omega.{arith}
use native.Mathlib.Nat.{not-suc-le-zero, le_of_suc-le-suc}
use lib.ListN.{length, get_or, take, drop, set, length-take, length-drop}
use lib.Bits.{bit_and}
use Rattle.common.specs.Lists.{overlaid}
use Rattle.units.specs.Units.{word_of, pairs, unpaired}
use Rattle.units.proofs.Pairs.{dbl, dbl_is, get_dbl, set_dbl, long, joined, taken, dropped, unpaired_set, unpaired_joined, unpaired_dropped, and_word}

-- old AND data at a place
abbrev pub programmed : List ℕ → ℕ → ℕ → List ℕ
programmed xs at v = set xs at (bit_and (get_or xs at 0) v)

even_take : (xs : List ℕ) (a : ℕ) → dbl a ≤ length xs → length (take (dbl a) xs) ≡ dbl a
even_take xs a h = length-take (dbl a) xs ∙ least (dbl a) (length xs) h where
  least : (m n : ℕ) → m ≤ n → min m n ≡ m
  least m n h = omega arith

-- ys of m words over xs from word a on
pub laid_words : (xs ys : List ℕ) (a m : ℕ) → dbl a ≤ length xs → length ys ≡ dbl m → pairs (overlaid xs (dbl a) ys) ≡ overlaid (pairs xs) a (pairs ys)
laid_words xs ys a m h e =
    joined (take (dbl a) xs) (ys ++ drop (length ys) (drop (dbl a) xs)) a (even_take xs a h) ∙
    ap₂ (λ (s t : List ℕ). s ++ t) (taken xs a)
    (joined ys (drop (length ys) (drop (dbl a) xs)) m e ∙
    ap (λ (t : List ℕ). pairs ys ++ t)
    (ap (λ (k : ℕ). pairs (drop k (drop (dbl a) xs))) e ∙ dropped (drop (dbl a) xs) m ∙ ap (λ (t : List ℕ). drop m t) (dropped xs a) ∙
    ap (λ (k : ℕ). drop k (drop a (pairs xs))) (sym (long ys m e))))

pub spare_laid : (xs ys : List ℕ) (a m : ℕ) → dbl a + dbl m ≤ length xs → length ys ≡ dbl m → unpaired (overlaid xs (dbl a) ys) ≡ unpaired xs
spare_laid xs ys a m h e =
    unpaired_joined (take (dbl a) xs) (ys ++ drop (length ys) (drop (dbl a) xs)) a (even_take xs a (omega arith))
    ∙ unpaired_joined ys (drop (length ys) (drop (dbl a) xs)) m e
    ∙ ap (λ (k : ℕ). unpaired (drop k (drop (dbl a) xs))) e
    ∙ unpaired_dropped (drop (dbl a) xs) m (let l = length-drop (dbl a) xs in omega arith)
    ∙ unpaired_dropped xs a (omega arith)

other : (xs : List ℕ) (i v : ℕ) → get_or (set xs i v) (suc i) 0 ≡ get_or xs (suc i) 0
other [] i v = refl
other (x ∷ xs) zero v = refl
other (x ∷ xs) (suc i) v = other xs i v

split : (v : ℕ) → word_of (v % 256) (v / 256) ≡ v
split v = omega arith

rest<256 : (v : ℕ) → v % 256 < 256
rest<256 v = omega arith

-- both bytes programmed are the word programmed
at_dbl : (xs : List ℕ) (i v : ℕ) → suc (dbl i) < length xs → get_or xs (dbl i) 0 < 256
    → pairs (programmed (programmed xs (dbl i) (v % 256)) (suc (dbl i)) (v / 256)) ≡ programmed (pairs xs) i v
at_dbl xs i v h b =
    ap (λ (x : ℕ). pairs (set (programmed xs (dbl i) (v % 256)) (suc (dbl i)) (bit_and x (v / 256)))) (other xs (dbl i) (bit_and (get_or xs (dbl i) 0) (v % 256))) ∙
    set_dbl xs i (bit_and (get_or xs (dbl i) 0) (v % 256)) (bit_and (get_or xs (suc (dbl i)) 0) (v / 256)) h ∙
    ap (λ (x : ℕ). set (pairs xs) i x)
    (sym (and_word (get_or xs (suc (dbl i)) 0) (v / 256) (get_or xs (dbl i) 0) (v % 256) b (rest<256 v)) ∙
    ap₂ (λ (x y : ℕ). bit_and x y) (sym (get_dbl xs i h)) (split v))

pub program_law : (xs ys zs : List ℕ) (i b v l h : ℕ) → b ≡ 2 * i → l ≡ v % 256 → h ≡ v / 256 → ys ≡ programmed xs b l → zs ≡ programmed ys (b + 1) h
    → b + 1 < length xs → get_or xs b 0 < 256
    → (pairs zs ≡ programmed (pairs xs) i v) × (unpaired zs ≡ unpaired xs)
program_law xs ys zs i b v l h e p q f g k small =
    let z = dbl_is i in
    let j : b ≡ dbl i = omega arith in
    let m : b + 1 ≡ suc (dbl i) = omega arith in
    let w : zs ≡ programmed (programmed xs (dbl i) (v % 256)) (suc (dbl i)) (v / 256) =
    g ∙ ap (λ (t : List ℕ). programmed t (b + 1) h) f ∙ ap₂ (λ (x y : ℕ). programmed (programmed xs b x) (b + 1) y) p q ∙
    ap₂ (λ (x y : ℕ). programmed (programmed xs x (v % 256)) y (v / 256)) j m in (
      ap pairs w ∙ at_dbl xs i v (omega arith) (subst (λ (k : ℕ). get_or xs k 0 < 256) j small),
      ap unpaired w ∙ unpaired_set xs i (bit_and (get_or xs (dbl i) 0) (v % 256)) (bit_and (get_or (programmed xs (dbl i) (v % 256)) (suc (dbl i)) 0) (v / 256)) (omega arith),
    )

-- past the last whole word nothing is read ..
past : (xs : List ℕ) (i : ℕ) → length xs ≤ suc (dbl i) → get_or (pairs xs) i 0 ≡ 0
past [] i h = refl
past (x ∷ []) i h = refl
past (x ∷ y ∷ zs) zero h = absurd (not-suc-le-zero (le_of_suc-le-suc h))
past (x ∷ y ∷ zs) (suc i) h = past zs i (le_of_suc-le-suc (le_of_suc-le-suc h))

pub get_past : (xs : List ℕ) (i : ℕ) → length xs / 2 ≤ i → get_or (pairs xs) i 0 ≡ 0
get_past xs i h = let z = dbl_is i in past xs i (omega arith)

pub get_law : (xs : List ℕ) (i b x y : ℕ) → b ≡ 2 * i → b + 1 < length xs → x ≡ get_or xs b 0 → y ≡ get_or xs (b + 1) 0 → y * 256 + x ≡ get_or (pairs xs) i 0
get_law xs i b x y e h p q =
    let z = dbl_is i in
    let j : b ≡ dbl i = omega arith in
    let m : b + 1 ≡ suc (dbl i) = omega arith in
    ap₂ (λ (u v : ℕ). v * 256 + u) p q ∙ ap₂ (λ (u v : ℕ). word_of (get_or xs u 0) (get_or xs v 0)) j m ∙ sym (get_dbl xs i (omega arith))

-- .. and nothing is written
unset : (xs : List ℕ) (i v : ℕ) → length xs ≤ suc (dbl i) → set (pairs xs) i v ≡ pairs xs
unset [] i v h = refl
unset (x ∷ []) i v h = refl
unset (x ∷ y ∷ zs) zero v h = absurd (not-suc-le-zero (le_of_suc-le-suc h))
unset (x ∷ y ∷ zs) (suc i) v h = ap (λ (t : List ℕ). word_of x y ∷ t) (unset zs i v (le_of_suc-le-suc (le_of_suc-le-suc h)))

pub put_past : (xs : List ℕ) (i v : ℕ) → length xs / 2 ≤ i → pairs xs ≡ set (pairs xs) i v
put_past xs i v h = let z = dbl_is i in sym (unset xs i v (omega arith))

pub put_law : (xs : List ℕ) (i b v l h : ℕ) → b ≡ 2 * i → l ≡ v % 256 → h ≡ v / 256 → b + 1 < length xs
    → (pairs (set (set xs b l) (b + 1) h) ≡ set (pairs xs) i v) × (unpaired (set (set xs b l) (b + 1) h) ≡ unpaired xs)
put_law xs i b v l h e p q k =
    let z = dbl_is i in
    let f : b ≡ dbl i = omega arith in
    let g : b + 1 ≡ suc (dbl i) = omega arith in (
      ap₂ (λ (j m : ℕ). pairs (set (set xs j l) m h)) f g ∙ set_dbl xs i l h (omega arith) ∙
          ap (λ (x : ℕ). set (pairs xs) i x) (ap₂ (λ (x y : ℕ). word_of x y) p q ∙ split v),
      ap₂ (λ (j m : ℕ). unpaired (set (set xs j l) m h)) f g ∙ unpaired_set xs i l h (omega arith),
    )
