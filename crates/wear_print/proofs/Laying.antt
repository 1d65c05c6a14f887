-- Text laid behind text from a place on, and the count of a number's digits, turn by turn.
use mathlib.Core.Path.{◌≡◌, refl, sym, ap, ap₂, subst, ◌∙◌}
use mathlib.Core.List.{List, [], ◌∷◌, ◌++◌, append_assoc}
use Prim.Native.Nat.{ℕ, zero, suc, ◌+◌, ◌-◌, ◌*◌, ◌/◌, ◌%◌, ◌^◌, ◌≤◌, ◌<◌}
use native.Mathlib.Nat.{pow-suc}
use native.Mathlib.Omega.{arith}
use lib.Dec.{ltb}
use lib.ListN.{length, take, drop, set, length-append}
use lib.Seq.{sets-eq, drop-drop, take_at, drop_at, take_all, length-take-le}
use borrow.Author.Tests.{lt-ltb, le-ltb}
use borrow.Rule.Slice.PartMut.{put_mid, mid_of, mid_len}
use Rattle.common.specs.Lists.{copied, overlaid}
use Rattle.common.proofs.Choice.{if_true, if_false}
use Rattle.text.specs.Digits.{spelled, digit_letter}
use Rattle.wear_print.specs.Tables.{width_from, width_of, field_text, head_text, laid_in, count_in}

-- a number of one digit
pub width_one : (m n : ℕ) → n < 10 → width_from (suc m) n ≡ 1
unfolding width_from
width_one m n h = simp (lt-ltb n 10 h)

-- a number of k digits behind its first
pub width_is : (m n k : ℕ) → k ≤ m → 10 ^ k ≤ n → n < 10 * 10 ^ k → width_from m n ≡ k + 1
unfolding width_from
width_is zero n zero h l u = refl
width_is zero n (suc k) h l u = absurd (omega (arith, h))
width_is (suc m) n zero h l u = width_one m n u
width_is (suc m) n (suc k) h l u =
    let l2 : 10 ^ k * 10 ≤ n = subst (λ (z : ℕ). z ≤ n) (pow-suc 10 k) l in
    let u2 : n < 10 * (10 ^ k * 10) = subst (λ (z : ℕ). n < 10 * z) (pow-suc 10 k) u in
    let w = width_is m (n / 10) k (omega (arith, h)) (omega arith) (omega arith) in
    simp (le-ltb n 10 (omega arith)) (omega (arith, w))

-- one text behind another
set_over : (xs : List ℕ) (a b : ℕ) → a < length xs → set xs a b ≡ overlaid xs a (b ∷ [])
set_over xs a b h = sets-eq (b ∷ []) xs a (omega (arith, h)) ∙ append_assoc (take a xs) (b ∷ []) (drop (a + 1) xs) ∙ ap (λ (z : List ℕ). take a xs ++ ((b ∷ []) ++ z)) (sym (drop-drop 1 a xs))

over_over : (xs ys zs : List ℕ) (a : ℕ) → a ≤ length xs → overlaid (overlaid xs a ys) (a + length ys) zs ≡ overlaid xs a (ys ++ zs)
over_over xs ys zs a h =
    let A = take a xs in
    let D = drop a xs in
    let R = drop (length ys) D in
    let l : length (A ++ ys) ≡ a + length ys = length-append A ys ∙ ap (λ (n : ℕ). n + length ys) (length-take-le a xs h) in
    let e : overlaid xs a ys ≡ (A ++ ys) ++ R = sym (append_assoc A ys R) in
    let d : drop (length zs) R ≡ drop (length (ys ++ zs)) D = drop-drop (length zs) (length ys) D ∙ ap (λ (n : ℕ). drop n D) (sym (length-append ys zs)) in
    ap (λ (z : List ℕ). overlaid z (a + length ys) zs) e
    ∙ ap₂ (λ (u v : List ℕ). u ++ (zs ++ drop (length zs) v)) (take_at (A ++ ys) R (a + length ys) l) (drop_at (A ++ ys) R (a + length ys) l)
    ∙ ap (λ (z : List ℕ). (A ++ ys) ++ (zs ++ z)) d
    ∙ append_assoc A ys (zs ++ drop (length (ys ++ zs)) D)
    ∙ ap (λ (z : List ℕ). A ++ z) (sym (append_assoc ys zs (drop (length (ys ++ zs)) D)))

-- a text from a place on, and the place behind it
pub record From (out : List ℕ) (at : ℕ) (text now : List ℕ) (to : ℕ) : Type 0 where
  pub bytes : now ≡ overlaid out at text
  pub behind : to ≡ at + length text

pub from_more : (out A B now next : List ℕ) (at p to : ℕ) → at ≤ length out → From out at A now p → next ≡ overlaid now p B → to ≡ p + length B → From out at (A ++ B) next to
from_more out A B now next at p to h f e g =
    record {
      bytes = e ∙ (λ i. overlaid (f.bytes i) (f.behind i) B) ∙ over_over out A B at h;
      behind = let l = length-append A B in let b = f.behind in omega (arith, g, b, l);
    }

-- digits over a part of a slice
spelled_length : (w n : ℕ) (after : List ℕ) → length (spelled 10 w n after) ≡ w + length after
spelled_length zero n after = omega arith
spelled_length (suc w) n after = spelled_length w (n / 10) (digit_letter (n % 10) ∷ after) ∙ (let q : w + suc (length after) ≡ suc w + length after = omega arith in q)

digits_over : (out y : List ℕ) (at w n : ℕ) → at + w ≤ length out → y ≡ spelled 10 (length (mid_of at (at + w - at) out)) n []
    → put_mid at (at + w - at) out y ≡ overlaid out at (spelled 10 w n [])
digits_over out y at w n h f =
    let k : at + w - at ≡ w = omega arith in
    let m : length (mid_of at (at + w - at) out) ≡ w = mid_len at (at + w) out h ∙ k in
    let g : y ≡ spelled 10 w n [] = f ∙ ap (λ (z : ℕ). spelled 10 z n []) m in
    let l : at + w - at ≡ length y = k ∙ sym (ap length g ∙ spelled_length w n [] ∙ (let q : w + 0 ≡ w = omega arith in q)) in
    ap (λ (z : ℕ). take at out ++ (y ++ drop z (drop at out))) l ∙ ap (overlaid out at) g

-- a space, and the digits behind it
pub field_over : (out y : List ℕ) (at w n : ℕ) → w ≡ width_of n → w ≤ 20 → at + 21 ≤ length out → length (set out at 32) ≡ length out
    → y ≡ spelled 10 (length (mid_of (at + 1) (at + 1 + w - (at + 1)) (set out at 32))) n []
    → ((at + 1 + w ≡ at + length (field_text n)) × (at + 1 + w ≤ at + 21)) × (put_mid (at + 1) (at + 1 + w - (at + 1)) (set out at 32) y ≡ overlaid out at (field_text n))
unfolding field_text
field_over out y at w n e b h s f =
    let l : length (spelled 10 (width_of n) n []) ≡ width_of n + 0 = spelled_length (width_of n) n [] in (
      (omega (arith, l, e), omega (arith, b)),
      digits_over (set out at 32) y (at + 1) w n (omega (arith, s, b, h)) f
          ∙ ap (λ (z : List ℕ). overlaid z (at + 1) (spelled 10 w n [])) (set_over out at 32 (omega (arith, h)))
          ∙ over_over out (32 ∷ []) (spelled 10 w n []) at (omega (arith, h))
          ∙ ap (λ (z : ℕ). overlaid out at (32 ∷ spelled 10 z n [])) e,
    )

-- a newline behind a text
pub from_letter : (out A now : List ℕ) (b at p : ℕ) → at ≤ length out → p < length now → From out at A now p → From out at (A ++ (b ∷ [])) (set now p b) (p + 1)
from_letter out A now b at p h l f = from_more out A (b ∷ []) now (set now p b) at p (p + 1) h f (set_over now p b l) refl

-- a letter in front
pub letter_front : (out : List ℕ) (b : ℕ) → 0 < length out → From out 0 (b ∷ []) (set out 0 b) 1
letter_front out b l = record { bytes = set_over out 0 b l; behind = refl }

-- the header in front
pub head_front : (out now : List ℕ) → 512 ≤ length out → now ≡ copied out head_text → From out 0 head_text now 37
head_front out now h e =
    record {
      bytes = e ∙ ap (λ (z : List ℕ). z ++ drop (length head_text) out) (take_all (length out) head_text (omega (arith, h)));
      behind = refl;
    }

-- with room and without
pub no_room_lem : (out text : List ℕ) → length out < 512 → (0 ≡ count_in out text) × (out ≡ laid_in out text)
unfolding count_in laid_in
no_room_lem out text h =
    (sym (if_true (ltb (length out) 512) 0 (length text) (lt-ltb _ _ h)), sym (if_true (ltb (length out) 512) out (text ++ drop (length text) out) (lt-ltb _ _ h)))

pub in_room : (out text now : List ℕ) (at : ℕ) → 512 ≤ length out → From out 0 text now at → (at ≡ count_in out text) × (now ≡ laid_in out text)
unfolding count_in laid_in
in_room out text now at h f = (
  f.behind ∙ (let q : 0 + length text ≡ length text = omega arith in q) ∙ sym (if_false (ltb (length out) 512) 0 (length text) (le-ltb _ _ h)),
  f.bytes ∙ sym (if_false (ltb (length out) 512) out (text ++ drop (length text) out) (le-ltb _ _ h)),
)

-- a count of bytes of a slice
pub counts : (r : ℕ) (xs : List ℕ) → r ≤ length xs → (r ≤ length xs) × (r ≡ length (take r xs))
counts r xs h = (h, sym (length-take-le r xs h))
