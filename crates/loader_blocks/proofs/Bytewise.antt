-- Bits that must rise, in words and in their bytes.
use mathlib.Core.Path.{◌≡◌, refl, sym, ap, ap₂, ◌∙◌}
use mathlib.Core.Bool.{Bool, true, false, not, ◌&&◌, ◌||◌}
use mathlib.Core.List.{List, [], ◌∷◌}
use Prim.Native.Nat.{ℕ, zero, suc, ◌+◌, ◌%◌, ◌<◌}
use native.Mathlib.Omega.{arith}
use lib.ListN.{length, get_or}
use lib.Dec.{eqb}
use lib.Bits.{bit_and, bit_or, bit_xor, and_le_r}
use Rattle.std.specs.List.{fold, zip}
use borrow.Author.Tests.{eq-eqb, ne_eqb, eqb-true, eqb-false}
use Rattle.common.specs.Lists.{Bytes}
use Rattle.units.specs.Units.{word_of, pairs, units, torn}
use Rattle.units.proofs.Pairs.{and_word}
use Rattle.loader_walk.specs.Walks.{must_rise, rises, rises_in}
use Rattle.loader_blocks.proofs.Laws.{gathered, or_three, or_none}

-- two words are the same where both bytes are
eqb_word : (a b x y : ℕ) → a < 256 → x < 256 → eqb (word_of a b) (word_of x y) ≡ (eqb a x && eqb b y)
eqb_word a b x y p q = go (eqb a x) refl (eqb b y) refl
  where
    go : (s : Bool) → eqb a x ≡ s → (t : Bool) → eqb b y ≡ t → eqb (word_of a b) (word_of x y) ≡ (s && t)
    go true e true f = let c = eqb-true a x e in let d = eqb-true b y f in eq-eqb (word_of a b) (word_of x y) (let z : word_of a b ≡ word_of x y = omega arith in z)
    go true e false f = let d = eqb-false b y f in ne_eqb (word_of a b) (word_of x y) (λ (z : word_of a b ≡ word_of x y). d (omega arith))
    go false e t f = let d = eqb-false a x e in ne_eqb (word_of a b) (word_of x y) (λ (z : word_of a b ≡ word_of x y). d (omega arith))

not_both : (s t : Bool) → not (s && t) ≡ (not s || not t)
not_both true t = refl
not_both false t = refl

-- a bit of a word must rise where one of either byte must
rise_word : (u v x y : ℕ) → u < 256 → x < 256 → must_rise (word_of u v) (word_of x y) ≡ (must_rise u x || must_rise v y)
rise_word u v x y p q =
    ap (λ (z : ℕ). not (eqb z (word_of x y))) (and_word v y u x p q)
    ∙ ap not (eqb_word (bit_and u x) (bit_and v y) x y (let l = and_le_r u x in omega arith) q)
    ∙ not_both (eqb (bit_and u x) x) (eqb (bit_and v y) y)

-- a walk that begins one place later, over lists with one more in front
shift : (k i x y : ℕ) (w s : List ℕ) → rises k (suc i) (x ∷ w) (y ∷ s) ≡ rises k i w s
shift zero i x y w s = refl
shift (suc k) i x y w s =
    let e : suc i + 1 ≡ suc (i + 1) = omega arith in
    ap (λ (b : Bool). must_rise (get_or s i 0) (get_or w i 0) || b) (ap (λ (j : ℕ). rises k j (x ∷ w) (y ∷ s)) e ∙ shift k (i + 1) x y w s)

-- .. from the front
first : (k x y : ℕ) (w s : List ℕ) → rises (suc k) 0 (x ∷ w) (y ∷ s) ≡ (must_rise y x || rises k 0 w s)
first k x y w s = ap (λ (b : Bool). must_rise y x || b) (shift k 0 x y w s)

words : (w s : List ℕ) → length s ≡ length w → eqb (length w % 2) 1 ≡ false → Bytes w → Bytes s → rises (length (pairs w)) 0 (pairs w) (pairs s) ≡ rises (length w) 0 w s
words [] s l e b c = refl
words (x ∷ []) s l e b c = absurd (eqb-false 1 1 e refl)
words (x ∷ y ∷ w) [] l e b c = absurd (omega arith)
words (x ∷ y ∷ w) (u ∷ []) l e b c = absurd (omega arith)
words (x ∷ y ∷ w) (u ∷ v ∷ s) l e b c =
    first (length (pairs w)) (word_of x y) (word_of u v) (pairs w) (pairs s)
    ∙ ap₂ (λ (p q : Bool). p || q) (rise_word u v x y (c 0) (b 0)) (words w s (omega arith) even (λ i. b (suc (suc i))) (λ i. c (suc (suc i))))
    ∙ or_three (must_rise u x) (must_rise v y) (rises (length w) 0 w s)
    ∙ ap (λ (q : Bool). must_rise u x || q) (sym (first (length w) y v w s))
    ∙ sym (first (suc (length w)) x u (y ∷ w) (v ∷ s))
  where
    even : eqb (length w % 2) 1 ≡ false
    even = let z = eqb-false (suc (suc (length w)) % 2) 1 e in ne_eqb (length w % 2) 1 (λ (q : length w % 2 ≡ 1). z (omega arith))

-- so the walk over the bytes says it of their units
pub rises_units : (word : Bool) (w s : List ℕ) → length s ≡ length w → torn word (length w) ≡ false → Bytes w → Bytes s → rises_in (units word w) (units word s) ≡ rises_in w s
unfolding rises_in
rises_units false w s l e b c = refl
rises_units true w s l e b c = words w s l e b c

-- the bits that must rise, gathered over all pairs of bytes
pub rises_folded : (b : ℕ) (w s : List ℕ) → length s ≡ length w
    → not (eqb (fold (λ (b : ℕ) (p : ℕ × ℕ). bit_or b (bit_xor (bit_and p.1 p.0) p.0)) b (zip w s)) 0) ≡ (not (eqb b 0) || rises (length w) 0 w s)
rises_folded b [] [] l = sym (or_none (not (eqb b 0)))
rises_folded b [] (y ∷ s) l = absurd (omega arith)
rises_folded b (x ∷ w) [] l = absurd (omega arith)
rises_folded b (x ∷ w) (y ∷ s) l =
    let R : Bool = rises (length w) 0 w s in
    rises_folded (bit_or b (bit_xor (bit_and y x) x)) w s (omega arith)
    ∙ ap (λ (q : Bool). q || R) (gathered b y x)
    ∙ or_three (not (eqb b 0)) (must_rise y x) R
    ∙ ap (λ (q : Bool). not (eqb b 0) || q) (sym (first (length w) x y w s))
