-- What both widths share, once over the width.
use Prim.Native.Nat.{ℕ, zero, suc, ◌+◌, ◌-◌, ◌*◌, ◌/◌, ◌%◌, ◌≤◌, ◌<◌}
use mathlib.Core.Path.{◌≡◌, refl, sym, ap, ap₂, ◌∙◌}
use mathlib.Core.Bool.{Bool, true, false, ◌&&◌}
use mathlib.Core.List.{List, [], ◌∷◌, ◌++◌, append-nil}
use native.Mathlib.Omega.{arith}
use native.Mathlib.Nat.{not-suc-le-zero, le_of_suc-le-suc}
use lib.ListN.{length, get_or, take, set, replicate, length-replicate}
use lib.Seq.{length-take-le}
use lib.Bits.{bit_and, and_block}
use lib.Dec.{eqb, leb}
use borrow.Author.Tests.{eqb-true, eqb-false, ne_eqb, le-leb, lt-leb, leb-true, leb-false}
use Rattle.common.specs.Lists.{overlaid, Bytes}
use Rattle.std.specs.Prelude.{if◌then◌else◌}
use Rattle.common.proofs.Choice.{if_true, if_false, and_left, and_right}
use Rattle.units.specs.Units.{word_of, pairs, halves, unpaired, units, spare, back, units_in, bytes_in, torn, lent, lent_in, carried, top, erased_in, left_in}
use Rattle.units.specs.Address.{byte_of, byte_at}
use Rattle.units.proofs.Pairs.{dbl, dbl_is, taken, blank, blank_odd}
use Rattle.units.proofs.Words.{laid_words, spare_laid, programmed}

clash : {A : Type 0} → true ≡ false → A
clash e = absurd (let z : ◌≡◌ {A = ℕ} 0 1 = cc in omega arith)

-- how many words bytes make
half : (xs : List ℕ) → length (pairs xs) ≡ length xs / 2
half [] = refl
half (x ∷ []) = refl
half (x ∷ y ∷ zs) = let h = half zs in omega arith

pub units_length : (w : Bool) (xs : List ℕ) → length (units w xs) ≡ units_in w (length xs)
units_length false xs = refl
units_length true xs = half xs

pub lent_length : (w : Bool) (xs : List ℕ) → length (lent w xs) ≡ lent_in w (length xs)
unfolding lent lent_in
lent_length false xs = refl
lent_length true xs = go (eqb (length xs % 2) 1)
  where
    go : (t : Bool) → length (if t then [] else pairs xs) ≡ (if t then 0 else length xs / 2)
    go true = refl
    go false = half xs

-- bytes that are lent and have units are a whole number of them
pub lent_even : (w : Bool) (xs : List ℕ) → torn w (length xs) ≡ false → lent w xs ≡ units w xs
unfolding lent
lent_even w xs e = rw e refl

pub lent_whole : (w : Bool) (xs : List ℕ) → 0 < length (lent w xs) → torn w (length xs) ≡ false
unfolding lent
lent_whole w xs h = go (torn w (length xs)) refl
  where
    go : (t : Bool) → torn w (length xs) ≡ t → torn w (length xs) ≡ false
    go true e = absurd (not-suc-le-zero (rw e at h))
    go false e = e

pub lent_is : (w : Bool) (xs : List ℕ) → 0 < length (lent w xs) → lent w xs ≡ units w xs
lent_is w xs h = lent_even w xs (lent_whole w xs h)

even : (n : ℕ) → eqb (n % 2) 1 ≡ false → n % 2 ≡ 0
even n e = let h = eqb-false (n % 2) 1 e in omega arith

pub whole : (w : Bool) (xs : List ℕ) → torn w (length xs) ≡ false → length xs ≡ bytes_in w (length (units w xs))
whole false xs e = refl
whole true xs e = let h = half xs in let z = even (length xs) e in omega arith

pub untorn : (w : Bool) (n : ℕ) → torn w (bytes_in w n) ≡ false
untorn false n = refl
untorn true n = ne_eqb (2 * n % 2) 1 (λ e. let z : ◌≡◌ {A = ℕ} 0 1 = omega arith in omega arith)

-- units come back from their bytes, whatever they are
pub units_back : (w : Bool) (us : List ℕ) → units w (back w us) ≡ us
units_back false us = refl
units_back true [] = refl
units_back true (u ∷ us) = ap₂ (λ (x : ℕ) (xs : List ℕ). x ∷ xs) (whole_word u) (units_back true us)
  where
    whole_word : (v : ℕ) → word_of (v % 256) (v / 256) ≡ v
    whole_word v = omega arith

-- and bytes, a whole number of units, from theirs
low : (x y : ℕ) → x < 256 → word_of x y % 256 ≡ x
low x y h = omega arith

high : (x y : ℕ) → x < 256 → word_of x y / 256 ≡ y
high x y h = omega arith

again : (xs : List ℕ) → Bytes xs → halves (pairs xs) ++ unpaired xs ≡ xs
again [] b = refl
again (x ∷ []) b = refl
again (x ∷ y ∷ zs) b =
    let r : halves (pairs zs) ++ unpaired zs ≡ zs = again zs (λ i. b (suc (suc i))) in
    λ i. low x y (b 0) i ∷ high x y (b 0) i ∷ r i

-- bytes are those of their units and the one that is in none
pub all_bytes : (w : Bool) (xs : List ℕ) → Bytes xs → back w (units w xs) ++ spare w xs ≡ xs
all_bytes false xs b = append-nil xs
all_bytes true xs b = again xs b

none_spare : (xs : List ℕ) → length xs % 2 ≡ 0 → unpaired xs ≡ []
none_spare [] e = refl
none_spare (x ∷ []) e = absurd (omega arith)
none_spare (x ∷ y ∷ zs) e = none_spare zs (omega arith)

pub no_spare : (w : Bool) (xs : List ℕ) → torn w (length xs) ≡ false → spare w xs ≡ []
no_spare false xs e = refl
no_spare true xs e = none_spare xs (even (length xs) e)

pub back_units : (w : Bool) (xs : List ℕ) → torn w (length xs) ≡ false → Bytes xs → back w (units w xs) ≡ xs
back_units w xs e b =
    sym (append-nil (back w (units w xs))) ∙ ap (λ (t : List ℕ). back w (units w xs) ++ t) (sym (no_spare w xs e)) ∙ all_bytes w xs b

-- so two lists of bytes with the same units, and the same byte in none, are the same
pub same_bytes : (w : Bool) (xs ys : List ℕ) → Bytes xs → Bytes ys → units w xs ≡ units w ys → spare w xs ≡ spare w ys → xs ≡ ys
same_bytes w xs ys b c p q =
    sym (all_bytes w xs b) ∙ ap₂ (λ (s t : List ℕ). back w s ++ t) p q ∙ all_bytes w ys c

-- a unit is at most all ones
word_cells : (xs : List ℕ) → Bytes xs → (i : ℕ) → get_or (pairs xs) i 0 ≤ 65535
word_cells [] b i = omega arith
word_cells (x ∷ []) b i = omega arith
word_cells (x ∷ y ∷ zs) b zero = let p = b 0 in let q = b 1 in omega arith
word_cells (x ∷ y ∷ zs) b (suc i) = word_cells zs (λ j. b (suc (suc j))) i

pub cells : (w : Bool) (xs : List ℕ) → Bytes xs → (i : ℕ) → get_or (units w xs) i 0 ≤ top w
cells false xs b i = let h = b i in omega arith
cells true xs b i = word_cells xs b i

pub carried_cell : (w : Bool) (v : ℕ) → v ≤ top w → carried w v ≡ v
carried_cell false v h = omega arith
carried_cell true v h = refl

pub carried_top : (w : Bool) (v : ℕ) → v < 65536 → carried w v ≤ top w
carried_top false v h = omega arith
carried_top true v h = omega arith

-- n units lie in the bytes
halved : (xs : List ℕ) (n : ℕ) → n ≤ length (pairs xs) → dbl n ≤ length xs
halved xs zero h = omega arith
halved [] (suc n) h = absurd (not-suc-le-zero h)
halved (x ∷ []) (suc n) h = absurd (not-suc-le-zero h)
halved (x ∷ y ∷ zs) (suc n) h = let z = halved zs n (le_of_suc-le-suc h) in omega arith

pub fit_by : (w : Bool) (xs : List ℕ) (n : ℕ) → n ≤ length (units w xs) → bytes_in w n ≤ length xs
fit_by false xs n h = h
fit_by true xs n h = let z = dbl_is n in let y = halved xs n h in omega arith

bytes_add : (w : Bool) (a n : ℕ) → byte_of w a + bytes_in w n ≡ bytes_in w (a + n)
bytes_add false a n = refl
bytes_add true a n = omega arith

laid_by : (w : Bool) (xs ys : List ℕ) (a m : ℕ) → a ≤ length (units w xs) → length ys ≡ bytes_in w m → units w (overlaid xs (byte_of w a) ys) ≡ overlaid (units w xs) a (units w ys)
laid_by false xs ys a m h e = refl
laid_by true xs ys a m h e =
    ap (λ (k : ℕ). pairs (overlaid xs k ys)) (sym (dbl_is a)) ∙ laid_words xs ys a m (halved xs a h) (e ∙ sym (dbl_is m))

blank_by : (w : Bool) (n : ℕ) → units w (replicate (bytes_in w n) 255) ≡ replicate n (top w)
blank_by false n = refl
blank_by true n = ap (λ (k : ℕ). pairs (replicate k 255)) (sym (dbl_is n)) ∙ blank n

taken_by : (w : Bool) (xs : List ℕ) (n : ℕ) → units w (take (bytes_in w n) xs) ≡ take n (units w xs)
taken_by false xs n = refl
taken_by true xs n = ap (λ (k : ℕ). pairs (take k xs)) (sym (dbl_is n)) ∙ taken xs n

-- all bytes ones
ones_in : (n : ℕ) → pairs (replicate n 255) ≡ replicate (n / 2) 65535
ones_in n = go (eqb (n % 2) 1) refl
  where
    go : (t : Bool) → eqb (n % 2) 1 ≡ t → pairs (replicate n 255) ≡ replicate (n / 2) 65535
    go true e =
        let z = dbl_is (n / 2) in
        let h = eqb-true (n % 2) 1 e in
        let q : n ≡ suc (dbl (n / 2)) = omega arith in
        ap (λ (k : ℕ). pairs (replicate k 255)) q ∙ blank_odd (n / 2)
    go false e =
        let z = dbl_is (n / 2) in
        let h = even n e in
        let q : n ≡ dbl (n / 2) = omega arith in
        ap (λ (k : ℕ). pairs (replicate k 255)) q ∙ blank (n / 2)

pub fill_law : (w : Bool) (xs ys : List ℕ) → ys ≡ replicate (length xs) 255 → units w ys ≡ replicate (length (units w xs)) (top w)
fill_law false xs ys e = e
fill_law true xs ys e = ap pairs e ∙ ones_in (length xs) ∙ ap (λ (n : ℕ). replicate n 65535) (sym (half xs))

-- for code: n units from unit a on, by their bytes x and y
pub in_law : (w : Bool) (xs : List ℕ) (a n x y : ℕ) → x ≡ byte_of w a → y ≡ bytes_in w n → a + n ≤ length (units w xs) → x + y ≤ length xs
in_law w xs a n x y p q h = let z = fit_by w xs (a + n) h in let e = bytes_add w a n in omega arith

pub one_law : (w : Bool) (xs : List ℕ) (n y : ℕ) → y ≡ bytes_in w n → n ≤ length (units w xs) → y ≤ length xs
one_law w xs n y q h = let z = fit_by w xs n h in omega arith

pub few_law : (w : Bool) (xs : List ℕ) (n : ℕ) → n ≤ length (units w xs) → n ≤ length xs
few_law false xs n h = h
few_law true xs n h = let z = half xs in omega arith

pub erase_law : (w : Bool) (xs : List ℕ) (a n x y : ℕ) → x ≡ byte_of w a → y ≡ bytes_in w n → a + n ≤ length (units w xs)
    → units w (overlaid xs x (replicate y 255)) ≡ overlaid (units w xs) a (replicate n (top w))
erase_law w xs a n x y p q h =
    ap₂ (λ (i j : ℕ). units w (overlaid xs i (replicate j 255))) p q
    ∙ laid_by w xs (replicate (bytes_in w n) 255) a n (omega arith) (length-replicate (bytes_in w n) 255) ∙ ap (λ (t : List ℕ). overlaid (units w xs) a t) (blank_by w n)

pub leave_law : (w : Bool) (xs rs : List ℕ) (a n x y : ℕ) → x ≡ byte_of w a → y ≡ bytes_in w n → a + n ≤ length (units w xs) → n ≤ length (units w rs)
    → units w (overlaid xs x (take y rs)) ≡ overlaid (units w xs) a (take n (units w rs))
leave_law w xs rs a n x y p q h l =
    ap₂ (λ (i j : ℕ). units w (overlaid xs i (take j rs))) p q
    ∙ laid_by w xs (take (bytes_in w n) rs) a n (omega arith) (length-take-le (bytes_in w n) rs (fit_by w rs n l)) ∙ ap (λ (t : List ℕ). overlaid (units w xs) a t) (taken_by w rs n)

spare_by : (w : Bool) (xs ys : List ℕ) (a m : ℕ) → a + m ≤ length (units w xs) → length ys ≡ bytes_in w m → spare w (overlaid xs (byte_of w a) ys) ≡ spare w xs
spare_by false xs ys a m h e = refl
spare_by true xs ys a m h e =
    let p = dbl_is a in
    let q = dbl_is m in
    let z = half xs in
    ap (λ (k : ℕ). unpaired (overlaid xs k ys)) (sym (dbl_is a)) ∙ spare_laid xs ys a m (omega arith) (e ∙ sym (dbl_is m))

pub erase_spare : (w : Bool) (xs : List ℕ) (a n x y : ℕ) → x ≡ byte_of w a → y ≡ bytes_in w n → a + n ≤ length (units w xs)
    → spare w (overlaid xs x (replicate y 255)) ≡ spare w xs
erase_spare w xs a n x y p q h =
    ap₂ (λ (i j : ℕ). spare w (overlaid xs i (replicate j 255))) p q ∙ spare_by w xs (replicate (bytes_in w n) 255) a n h (length-replicate (bytes_in w n) 255)

pub leave_spare : (w : Bool) (xs rs : List ℕ) (a n x y : ℕ) → x ≡ byte_of w a → y ≡ bytes_in w n → a + n ≤ length (units w xs) → n ≤ length (units w rs)
    → spare w (overlaid xs x (take y rs)) ≡ spare w xs
leave_spare w xs rs a n x y p q h l =
    ap₂ (λ (i j : ℕ). spare w (overlaid xs i (take j rs))) p q ∙ spare_by w xs (take (bytes_in w n) rs) a n h (length-take-le (bytes_in w n) rs (fit_by w rs n l))

pub true_bytes : (w : Bool) (n k : ℕ) → w ≡ true → bytes_in w n < k → 2 * n < k
true_bytes true n k e h = h
true_bytes false n k e h = clash (sym e)

-- and a single unit
pub word_in : (w : Bool) (xs : List ℕ) (i : ℕ) → w ≡ true → i < length (units w xs) → i < length (pairs xs)
word_in true xs i e h = h
word_in false xs i e h = clash (sym e)

pub byte_in : (w : Bool) (xs : List ℕ) (i : ℕ) → w ≡ false → i < length (units w xs) → i < length xs
byte_in false xs i e h = h
byte_in true xs i e h = clash e

pub both_in : (xs : List ℕ) (i : ℕ) → i < length (pairs xs) → 2 * i + 1 < length xs
both_in xs i h = let z = half xs in omega arith

-- what a byte keeps of 16 bits
pub and_low : (x v : ℕ) → x < 256 → bit_and x (v % 256) ≡ bit_and x v
and_low x v h =
    let a : x ≡ 0 * 256 + x = omega arith in
    let e : v / 256 * 256 + v % 256 ≡ v = omega arith in
    let z : 0 * 256 + bit_and x (v % 256) ≡ bit_and x (v % 256) = omega arith in
    sym z ∙ sym (and_block 8 0 (v / 256) x (v % 256) h (omega arith)) ∙ ap₂ (λ (s t : ℕ). bit_and s t) (sym a) e

pub program_low : (xs zs : List ℕ) (i v l : ℕ) → l ≡ v % 256 → get_or xs i 0 < 256 → zs ≡ programmed xs i l → zs ≡ programmed xs i v
program_low xs zs i v l p h f = f ∙ ap (λ (x : ℕ). set xs i (bit_and (get_or xs i 0) x)) p ∙ ap (λ (x : ℕ). set xs i x) (and_low (get_or xs i 0) v h)

-- a unit begins behind the bytes of the units before it
pub byte_of_lem : (w : Bool) (a : ℕ) → byte_of w a ≡ bytes_in w a
byte_of_lem false a = refl
byte_of_lem true a = refl

pub byte_at_most : (w : Bool) (a : ℕ) (high : Bool) → byte_at w a high ≤ 2 * a + 1
byte_at_most false a high = omega arith
byte_at_most true a true = omega arith
byte_at_most true a false = omega arith

-- n units that are there become all ones, and the first n of a residue
pub erased_there : (w : Bool) (a n : ℕ) (us : List ℕ) → a + n ≤ length us → erased_in w a n us ≡ overlaid us a (replicate n (top w))
unfolding erased_in
erased_there w a n us h = if_true (leb (a + n) (length us)) (overlaid us a (replicate n (top w))) us (le-leb (a + n) (length us) h)

pub left_there : (a n : ℕ) (rs us : List ℕ) → a + n ≤ length us → n ≤ length rs → left_in a n rs us ≡ overlaid us a (take n rs)
unfolding left_in
left_there a n rs us h l = rw (le-leb (a + n) (length us) h, le-leb n (length rs) l) refl

-- for code: the test t that they are there, on the number k of units
pub there_if : (w : Bool) (xs : List ℕ) (a n k : ℕ) (t : Bool) → k ≡ units_in w (length xs) → t ≡ leb (a + n) k → t ≡ leb (a + n) (length (units w xs))
there_if w xs a n k t p q = q ∙ ap (λ (m : ℕ). leb (a + n) m) (p ∙ sym (units_length w xs))

pub residue_if : (w : Bool) (xs rs : List ℕ) (a n k m : ℕ) (t : Bool) → k ≡ units_in w (length xs) → t ≡ leb (a + n) k → m ≡ units_in w (length rs)
    → (t && leb n m) ≡ (leb (a + n) (length (units w xs)) && leb n (length (units w rs)))
residue_if w xs rs a n k m t p q r = ap₂ (λ (x y : Bool). x && y) (there_if w xs a n k t p q) (ap (λ (z : ℕ). leb n z) (r ∙ sym (units_length w rs)))

pub lies_by : (a n k : ℕ) → a ≤ k → leb n (k - a) ≡ leb (a + n) k
lies_by a n k h = go (leb n (k - a)) refl
  where
    go : (t : Bool) → leb n (k - a) ≡ t → t ≡ leb (a + n) k
    go true e = let z = leb-true n (k - a) e in sym (le-leb (a + n) k (omega arith))
    go false e = let z = leb-false n (k - a) e in sym (lt-leb (a + n) k (omega arith))

pub erased_past : (w : Bool) (a n : ℕ) (us : List ℕ) → leb (a + n) (length us) ≡ false → us ≡ erased_in w a n us
unfolding erased_in
erased_past w a n us e = sym (if_false (leb (a + n) (length us)) (overlaid us a (replicate n (top w))) us e)

pub left_past : (a n : ℕ) (rs us : List ℕ) → (leb (a + n) (length us) && leb n (length rs)) ≡ false → us ≡ left_in a n rs us
unfolding left_in
left_past a n rs us e = sym (if_false (leb (a + n) (length us) && leb n (length rs)) (overlaid us a (take n rs)) us e)

pub there : (a n : ℕ) (us : List ℕ) → leb (a + n) (length us) ≡ true → a + n ≤ length us
there a n us e = leb-true (a + n) (length us) e

pub both_there : (a n : ℕ) (rs us : List ℕ) → (leb (a + n) (length us) && leb n (length rs)) ≡ true → (a + n ≤ length us) × (n ≤ length rs)
both_there a n rs us e =
    (leb-true (a + n) (length us) (and_left (leb (a + n) (length us)) (leb n (length rs)) e), leb-true n (length rs) (and_right (leb (a + n) (length us)) (leb n (length rs)) e))
