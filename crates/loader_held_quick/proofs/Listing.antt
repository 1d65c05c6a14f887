-- The lowest listed number, by one walk over the polls.
use mathlib.Core.Path.{◌≡◌, refl, sym, ap, ◌∙◌}
use mathlib.Core.Bool.{Bool, true, false, ◌&&◌, ◌||◌}
use mathlib.Core.List.{List, [], ◌∷◌}
use Prim.Native.Nat.{ℕ, zero, suc, ◌+◌, ◌≤◌, ◌<◌}
use native.Mathlib.Omega.{arith}
use lib.ListN.{length, get_or, drop}
use lib.Dec.{eqb, ltb, leb}
use borrow.Author.Tests.{eq-eqb, ne_eqb, ltb-true, ltb-false, leb-true, leb-false}
use Rattle.common.proofs.Choice.{if_true, if_false, and_left, and_right, and_rest}
use Rattle.loader_held_lists.specs.Listings.{some_of}
use Rattle.loader_held_lists.proofs.Looking.{some_later, some_over}
use Rattle.loader_held.specs.Holds.{listed}
use Rattle.loader_held_quick.specs.HeldQuick.{NextListed, lower_of}

pub or_true : (b : Bool) → (b || true) ≡ true
or_true true = refl
or_true false = refl

-- what meets a test at some place meets it in the list
some_in : (f : ℕ → Bool) (ps : List ℕ) (i : ℕ) → i < length ps → f (get_or ps i 0) ≡ true → some_of f ps ≡ true
some_in f [] i h e = absurd (let y : ⊥ = omega arith in y)
some_in f (p ∷ ps) zero h e = ap (λ (b : Bool). b || some_of f ps) e
some_in f (p ∷ ps) (suc i) h e = ap (λ (b : Bool). f p || b) (some_in f ps i (omega arith) e) ∙ or_true (f p)

-- the number at a place is listed
listed_at : (ps : List ℕ) (i : ℕ) → i < length ps → listed (get_or ps i 0) ps ≡ true
unfolding listed
listed_at ps i h = some_in (λ p. eqb p (get_or ps i 0)) ps i h (eq-eqb (get_or ps i 0) (get_or ps i 0) refl)

-- another one is listed there if it is in the rest
listed_later : (ps : List ℕ) (i m : ℕ) → i < length ps → (get_or ps i 0 ≡ m → ⊥) → listed m (drop i ps) ≡ listed m (drop (i + 1) ps)
unfolding listed
listed_later ps i m h z = some_later (λ p. eqb p m) ps i h (ne_eqb (get_or ps i 0) m z)

listed_over : (ps : List ℕ) (i m : ℕ) → i ≡ length ps → listed m (drop i ps) ≡ false
unfolding listed
listed_over ps i m e = some_over (λ p. eqb p m) ps i e

-- r is the lowest number of the first i, or `past`; what is listed below it is listed in the rest
pub record Looked (from past : ℕ) (ps : List ℕ) (i r : ℕ) : Type 0 where
  pub place : i ≤ length ps
  pub least : from ≤ r
  pub most : r ≤ past
  pub met : r < past → listed r ps ≡ true
  pub rest : (m : ℕ) → from ≤ m → m < r → listed m (drop i ps) ≡ listed m ps

pub looked_none : (from past : ℕ) (ps : List ℕ) → from ≤ past → Looked from past ps 0 past
looked_none from past ps h = record { place = omega arith; least = h; most = omega arith; met = λ q. absurd (let y : ⊥ = omega arith in y); rest = λ m p q. refl }

-- one number more
pub looked_on : (from past : ℕ) (ps : List ℕ) (i r x : ℕ) → Looked from past ps i r → i < length ps → x ≡ lower_of from r (get_or ps i 0) → Looked from past ps (i + 1) x
unfolding lower_of
looked_on from past ps i r x l h e = go (leb from (get_or ps i 0) && ltb (get_or ps i 0) r) refl
  where
    P : ℕ
    P = get_or ps i 0

    go : (t : Bool) → (leb from P && ltb P r) ≡ t → Looked from past ps (i + 1) x
    go true q =
        let v : x ≡ P = e ∙ if_true (leb from P && ltb P r) P r q in
        let a : from ≤ P = leb-true from P (and_left (leb from P) (ltb P r) q) in
        let b : P < r = ltb-true P r (and_right (leb from P) (ltb P r) q) in
        record {
          place = omega (arith, h);
          least = omega (arith, a, v);
          most = omega (arith, b, v, l.most);
          met = λ g. ap (λ (n : ℕ). listed n ps) v ∙ listed_at ps i h;
          rest = λ m p g. sym (listed_later ps i m h (λ (z : P ≡ m). omega (arith, z, v, g))) ∙ l.rest m p (omega (arith, g, v, b));
        }
    go false q =
        let v : x ≡ r = e ∙ if_false (leb from P && ltb P r) P r q in
        record {
          place = omega (arith, h);
          least = omega (arith, v, l.least);
          most = omega (arith, v, l.most);
          met = λ g. ap (λ (n : ℕ). listed n ps) v ∙ l.met (omega (arith, g, v));
          rest = λ m p g. sym (listed_later ps i m h (λ (z : P ≡ m). other m p (omega (arith, g, v)) z)) ∙ l.rest m p (omega (arith, g, v));
        }
      where
        other : (m : ℕ) → from ≤ m → m < r → P ≡ m → ⊥
        other m p g z = below (leb from P) refl
          where
            below : (t : Bool) → leb from P ≡ t → ⊥
            below true f = let y = ltb-false P r (and_rest (leb from P) (ltb P r) f q) in omega arith
            below false f = let y = leb-false from P f in omega arith

-- all of them
pub looked_all : (from past : ℕ) (ps : List ℕ) (i r : ℕ) → Looked from past ps i r → length ps ≤ i → NextListed from past ps r
looked_all from past ps i r l h =
    record {
      least = l.least;
      most = l.most;
      met = l.met;
      none = λ m p q. sym (l.rest m p q) ∙ listed_over ps i m (omega (arith, h, l.place));
    }
