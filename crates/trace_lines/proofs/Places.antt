-- Forms of lines: what a list that is of a form has at each place, over any form.
use mathlib.Core.Path.{◌≡◌, refl, sym, ap}
use mathlib.Core.Bool.{Bool, true, false, ◌&&◌}
use mathlib.Core.List.{List, [], ◌∷◌}
use mathlib.Core.Logic.{◌↔◌}
use Prim.Native.Nat.{ℕ, zero, suc, ◌<◌}
use native.Mathlib.Omega.{arith}
use lib.ListN.{length, get_or}
use Rattle.common.proofs.Choice.{and_left, and_right, unlike}
use Rattle.trace_lines.specs.Lines.{Place, is_at, fits}

-- two tests that hold, together
pub both : {a b : Bool} → a ≡ true → b ≡ true → (a && b) ≡ true
both p q = rw (p, q) refl

-- what is of a form has the form's length
pub form_length : (ps : List Place) (xs : List ℕ) → fits ps xs ≡ true → length xs ≡ length ps
unfolding fits
form_length [] [] e = refl
form_length [] (x ∷ xs) e = absurd (unlike (sym e))
form_length (p ∷ ps) [] e = absurd (unlike (sym e))
form_length (p ∷ ps) (x ∷ xs) e = ap suc (form_length ps xs (and_right (is_at p x) (fits ps xs) e))

-- a list of another length is not of the form
pub unfit : (ps : List Place) (xs : List ℕ) → (length xs ≡ length ps → ⊥) → fits ps xs ≡ false
unfit ps xs h = go (fits ps xs) refl
  where
    go : (b : Bool) → fits ps xs ≡ b → fits ps xs ≡ false
    go true e = absurd (h (form_length ps xs e))
    go false e = e

-- it has at each place what the place asks for
pub form_at : (d : Place) (ps : List Place) (xs : List ℕ) → fits ps xs ≡ true → (i : ℕ) → i < length ps → is_at (get_or ps i d) (get_or xs i 0) ≡ true
unfolding fits
form_at d [] xs e i h = absurd (omega arith)
form_at d (p ∷ ps) [] e i h = absurd (unlike (sym e))
form_at d (p ∷ ps) (x ∷ xs) e zero h = and_left (is_at p x) (fits ps xs) e
form_at d (p ∷ ps) (x ∷ xs) e (suc i) h = form_at d ps xs (and_right (is_at p x) (fits ps xs) e) i (omega arith)

-- and whatever has the length, and that at each place, is of the form
pub form_if : (d : Place) (ps : List Place) (xs : List ℕ) → length xs ≡ length ps
    → ((i : ℕ) → i < length ps → is_at (get_or ps i d) (get_or xs i 0) ≡ true) → fits ps xs ≡ true
unfolding fits
form_if d [] [] l f = refl
form_if d [] (x ∷ xs) l f = absurd (omega arith)
form_if d (p ∷ ps) [] l f = absurd (omega arith)
form_if d (p ∷ ps) (x ∷ xs) l f = both (f 0 (omega arith)) (form_if d ps xs (omega arith) (λ (i : ℕ) (h : i < length ps). f (suc i) (omega arith)))

-- exactly such lists are of the form
pub form_exactly : (d : Place) (ps : List Place) (xs : List ℕ)
    → (fits ps xs ≡ true) ↔ ((length xs ≡ length ps) × ((i : ℕ) → i < length ps → is_at (get_or ps i d) (get_or xs i 0) ≡ true))
form_exactly d ps xs = (
  λ (e : fits ps xs ≡ true). (form_length ps xs e, form_at d ps xs e),
  λ (h : (length xs ≡ length ps) × ((i : ℕ) → i < length ps → is_at (get_or ps i d) (get_or xs i 0) ≡ true)). form_if d ps xs h.0 h.1,
)
