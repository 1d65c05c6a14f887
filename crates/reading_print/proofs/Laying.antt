-- A signed number laid from a place on, and how long it is.
use Rattle.std.proofs.Common.{◌≡◌, ℕ, suc, ◌≤◌, Bool, true, false, List, [], ◌∷◌, ◌++◌, length, sym, refl, ap, ◌∙◌, arith}
use Rattle.text.specs.Digits.{decimal_of}
use Rattle.text.specs.Writing.{laid_at, behind}
use Rattle.text.proofs.Spelling.{width_some, decimal_length}
use Rattle.text.proofs.Laying.{laid_first, laid_more}
use Rattle.reading_print.specs.Texts.{signed_text}

pub signed_true : (n : ℕ) → signed_text true n ≡ 45 ∷ decimal_of n
unfolding signed_text
signed_true n = refl

pub signed_false : (n : ℕ) → signed_text false n ≡ decimal_of n
unfolding signed_text
signed_false n = refl

pub signed_most : (b : Bool) (n : ℕ) → length (signed_text b n) ≤ 11
signed_most true n = let e : length (signed_text true n) ≡ suc (length (decimal_of n)) = ap length (signed_true n) in let l = decimal_length n in let w = (width_some n).1 in omega (arith, e, l, w)
signed_most false n = let e : length (signed_text false n) ≡ length (decimal_of n) = ap length (signed_false n) in let l = decimal_length n in let w = (width_some n).1 in omega (arith, e, l, w)

-- with a minus and without
pub minus_laid : (out o₁ o₂ : List ℕ) (at next r n : ℕ) (b : Bool) → b ≡ true → next ≡ behind out at (45 ∷ []) → o₁ ≡ laid_at out at (45 ∷ []) → r ≡ behind o₁ next (decimal_of n) → o₂ ≡ laid_at o₁ next (decimal_of n)
    → (r ≡ behind out at (signed_text b n)) × (o₂ ≡ laid_at out at (signed_text b n))
minus_laid out o₁ o₂ at next r n b h e f g k =
    let s : (45 ∷ []) ++ decimal_of n ≡ signed_text b n = sym (ap (λ (z : Bool). signed_text z n) h ∙ signed_true n) in
    let l = laid_more out (45 ∷ []) (decimal_of n) o₁ o₂ at next r (laid_first out (45 ∷ []) o₁ at next e f) g k in
    (l.place ∙ ap (behind out at) s, l.bytes ∙ ap (laid_at out at) s)

pub plain_laid : (out o : List ℕ) (at r n : ℕ) (b : Bool) → b ≡ false → r ≡ behind out at (decimal_of n) → o ≡ laid_at out at (decimal_of n)
    → (r ≡ behind out at (signed_text b n)) × (o ≡ laid_at out at (signed_text b n))
plain_laid out o at r n b h g k =
    let s : decimal_of n ≡ signed_text b n = sym (ap (λ (z : Bool). signed_text z n) h ∙ signed_false n) in
    (g ∙ ap (behind out at) s, k ∙ ap (laid_at out at) s)
