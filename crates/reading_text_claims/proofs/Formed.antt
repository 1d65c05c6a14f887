-- A number is taken exactly where its letters are of the form.
use mathlib.Core.Path.{◌≡◌, refl, sym, ap, ◌∙◌, subst}
use mathlib.Core.Bool.{Bool, true, false, not, ◌&&◌, ◌||◌}
use mathlib.Core.List.{List, [], ◌∷◌}
use Prim.Native.Nat.{ℕ, ◌+◌, ◌*◌, ◌≤◌, ◌<◌}
use native.Mathlib.Omega.{arith}
use lib.Dec.{eqb, leb}
use lib.ListN.{length}
use borrow.Author.Tests.{lt-leb, leb-true, leb-false, eqb-true}
use Rattle.std.specs.Prelude.{if◌then◌else◌}
use Rattle.common.proofs.Choice.{if_ind, and_left, and_right, unlike}
use Rattle.text.specs.Digits.{is_digit, digit_of}
use Rattle.reading_text.specs.declared.Number.{Number}
use Rattle.reading_text.specs.Numbers.{number_start, fed_digit, fed_minus, fed_other, fed, fed_all, number_fed, is_number}
use Rattle.reading_text_claims.specs.Forms.{all_digits, counted_from, NumberForm}
use Rattle.reading_text_claims.proofs.Letters.{numbered, minus_fed}

-- a digit counts up to nine
digit_small : (b : ℕ) → is_digit b ≡ true → digit_of b < 10
unfolding is_digit
digit_small b d =
    let l = leb-true 48 b (and_left (leb 48 b) (leb b 57) d) in
    let h = leb-true b 57 (and_right (leb 48 b) (leb b 57) d) in
    omega (arith, l, h)

grows : (n : ℕ) (bs : List ℕ) → n ≤ counted_from n bs
grows n [] = omega arith
grows n (b ∷ bs) = let g = grows (10 * n + digit_of b) bs in omega (arith, g)

-- from the form: digits are fed one after the other
digit_fed : (m s : Bool) (n b : ℕ) → is_digit b ≡ true → n < 100000000 → fed (numbered m s n) b ≡ numbered m true (10 * n + digit_of b)
unfolding fed fed_digit
digit_fed m s n b d h = simp (d, lt-leb 100000000 n h)

all_fed : (bs : List ℕ) (m : Bool) (n : ℕ) → all_digits bs ≡ true → counted_from n bs < 1000000000 → fed_all (numbered m true n) bs ≡ numbered m true (counted_from n bs)
all_fed [] m n d h = refl
all_fed (b ∷ bs) m n d h =
    let g = grows (10 * n + digit_of b) bs in
    ap (λ (z : Number). fed_all z bs) (digit_fed m true n b (and_left (is_digit b) (all_digits bs) d) (omega (arith, g, h)))
    ∙ all_fed bs m (10 * n + digit_of b) (and_right (is_digit b) (all_digits bs) d) h

digits_fed : (m : Bool) (bs : List ℕ) → 0 < length bs → all_digits bs ≡ true → counted_from 0 bs < 1000000000 → fed_all (numbered m false 0) bs ≡ numbered m true (counted_from 0 bs)
digits_fed m [] s d h = absurd (let z : ◌≡◌ {A = ℕ} 0 1 = omega (arith, s) in omega arith)
digits_fed m (b ∷ bs) s d h =
    ap (λ (z : Number). fed_all z bs) (digit_fed m false 0 b (and_left (is_digit b) (all_digits bs) d) (omega arith))
    ∙ all_fed bs m (10 * 0 + digit_of b) (and_right (is_digit b) (all_digits bs) d) h

signed_fed : (m : Bool) (bs : List ℕ) → 0 < length bs → all_digits bs ≡ true → counted_from 0 bs < 1000000000
    → fed_all number_start (if m then 45 ∷ bs else bs) ≡ numbered m true (counted_from 0 bs)
signed_fed true bs s d h = ap (λ (z : Number). fed_all z bs) minus_fed ∙ digits_fed true bs s d h
signed_fed false bs s d h = digits_fed false bs s d h

-- what a number of the form counts
pub formed : (u : List ℕ) (f : NumberForm u) → number_fed u ≡ numbered f.minus true (counted_from 0 f.digits)
unfolding number_fed
formed u f = ap (fed_all number_start) f.is ∙ signed_fed f.minus f.digits f.some f.all f.few

-- what is no number stays none
fed_none : (n : Number) (b : ℕ) → n.none ≡ true → (fed n b).none ≡ true
unfolding fed fed_digit
fed_none n b e =
    if_ind None (is_digit b) (fed_digit n b) (if eqb b 45 then fed_minus n else fed_other n)
    (λ d. if_ind None (leb 100000000 n.size) (record { minus = n.minus; some = true; none = true; size = 0 }) (record { minus = n.minus; some = true; none = n.none; size = 10 * n.size + digit_of b }) (λ q. refl) (λ q. e))
    (λ d. if_ind None (eqb b 45) (fed_minus n) (fed_other n) (λ q. ap (λ (z : Bool). (z || n.minus) || n.some) e) (λ q. refl))
  where
    None : Number → Type 0
    None z = z.none ≡ true

all_none : (bs : List ℕ) (n : Number) → n.none ≡ true → (fed_all n bs).none ≡ true
all_none [] n e = e
all_none (b ∷ bs) n e = all_none bs (fed n b) (fed_none n b e)

not_number : (bs : List ℕ) (n : Number) → n.none ≡ true → is_number (fed_all n bs) ≡ true → ⊥
not_number bs n e t =
    let z = fed_all n bs in
    unlike (sym (and_right z.some (not z.none) t) ∙ ap not (all_none bs n e))

bad_letter : (m s : Bool) (n b : ℕ) → (m || s) ≡ true → is_digit b ≡ false → (fed (numbered m s n) b).none ≡ true
unfolding fed
bad_letter m s n b w d =
    if_ind (λ (z : Number). z.none ≡ true) (is_digit b) (fed_digit (numbered m s n) b) (if eqb b 45 then fed_minus (numbered m s n) else fed_other (numbered m s n))
    (λ q. absurd (unlike (sym q ∙ d)))
    (λ q. if_ind (λ (z : Number). z.none ≡ true) (eqb b 45) (fed_minus (numbered m s n)) (fed_other (numbered m s n)) (λ r. w) (λ r. refl))

too_long : (m s : Bool) (n b : ℕ) → is_digit b ≡ true → leb 100000000 n ≡ true → (fed (numbered m s n) b).none ≡ true
unfolding fed fed_digit
too_long m s n b d l = simp (d, l)

-- behind a minus or a digit only digits follow
abbrev Digits : List ℕ → ℕ → Bool → Type 0
Digits bs n s = (all_digits bs ≡ true) × (counted_from n bs < 1000000000) × (s ≡ false → 0 < length bs)

digits_only : (bs : List ℕ) (m s : Bool) (n : ℕ) → (m || s) ≡ true → n < 1000000000 → is_number (fed_all (numbered m s n) bs) ≡ true → Digits bs n s
digits_only [] m s n w h e = (refl, h, λ (q : s ≡ false). absurd (unlike (sym (and_left s true e) ∙ q)))
digits_only (b ∷ bs) m s n w h e = go (is_digit b) refl (leb 100000000 n) refl (λ x. digits_only bs m true (10 * n + digit_of b) (or_true m) x)
  where
    or_true : (a : Bool) → (a || true) ≡ true
    or_true true = refl
    or_true false = refl

    go : (d : Bool) → is_digit b ≡ d → (l : Bool) → leb 100000000 n ≡ l
        → (10 * n + digit_of b < 1000000000 → is_number (fed_all (numbered m true (10 * n + digit_of b)) bs) ≡ true → Digits bs (10 * n + digit_of b) true)
        → Digits (b ∷ bs) n s
    go false d l q ih = absurd (not_number bs (fed (numbered m s n) b) (bad_letter m s n b w d) e)
    go true d true q ih = absurd (not_number bs (fed (numbered m s n) b) (too_long m s n b d q) e)
    go true d false q ih =
        let l = leb-false 100000000 n q in
        let c = digit_small b d in
        let r = ih (omega (arith, l, c)) (subst (λ (z : Number). is_number (fed_all z bs) ≡ true) (digit_fed m s n b d l) e) in
        (ap (λ (z : Bool). z && all_digits bs) d ∙ r.0, r.1, λ x. omega arith)

-- .. and in front a minus or a digit
other_letter : (b : ℕ) → is_digit b ≡ false → eqb b 45 ≡ false → (fed number_start b).none ≡ true
unfolding fed
other_letter b d x = simp (d, x)

pub number_form : (u : List ℕ) → is_number (number_fed u) ≡ true → NumberForm u
unfolding number_fed
number_form [] e = absurd (unlike (sym e))
number_form (b ∷ bs) e = go (is_digit b) refl (eqb b 45) refl
  where
    go : (d : Bool) → is_digit b ≡ d → (q : Bool) → eqb b 45 ≡ q → NumberForm (b ∷ bs)
    go true d q x =
        let c = digit_small b d in
        let r = digits_only bs false true (10 * 0 + digit_of b) refl (omega (arith, c)) (subst (λ (z : Number). is_number (fed_all z bs) ≡ true) (digit_fed false false 0 b d (omega arith)) e) in
        record { minus = false; digits = b ∷ bs; is = refl; some = omega arith; all = ap (λ (z : Bool). z && all_digits bs) d ∙ r.0; few = r.1 }
    go false d true x =
        let s = eqb-true b 45 x in
        let r = digits_only bs true false 0 refl (omega arith) (subst (λ (z : Number). is_number (fed_all z bs) ≡ true) (ap (fed number_start) s ∙ minus_fed) e) in
        record { minus = true; digits = bs; is = ap (λ (z : ℕ). z ∷ bs) s; some = r.2 refl; all = r.0; few = r.1 }
    go false d false x = absurd (not_number bs (fed number_start b) (other_letter b d x) e)
