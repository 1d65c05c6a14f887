-- The first knot that is not good, round by round.
use mathlib.Core.Path.{◌≡◌, refl, sym, ◌∙◌, subst}
use mathlib.Core.Bool.{Bool, true, false}
use mathlib.Core.List.{List}
use mathlib.Core.Logic.{⊎_elim}
use native.Mathlib.Nat.{eq-or-lt_of_le}
use Rattle.std.specs.Prelude.{Option, None, Some, MatchOption, unwrap_or}
use Prim.Native.Nat.{ℕ, zero, suc, ◌+◌, ◌≤◌, ◌<◌}
use native.Mathlib.Omega.{arith}
use Rattle.std.specs.Prelude.{if◌then◌else◌}
use Rattle.common.proofs.Choice.{if_true, if_false}
use Rattle.reading_table.specs.Table.{good_at, knots}
use Rattle.reading_table.specs.Faults.{fault_from, fault_of}

-- the knots from i up to j are good, and j is not, or is behind the last of the k
reach : (p : List ℕ) (k i j : ℕ) → i ≤ j → j ≤ i + k → ((m : ℕ) → i ≤ m → m < j → good_at p m ≡ true) → (j < i + k → good_at p j ≡ false) → fault_from k i p ≡ j
unfolding fault_from
reach p zero i j l h good bad = omega arith
reach p (suc k) i j l h good bad =
    ⊎_elim
    (λ (e : i ≡ j). if_false (good_at p i) (fault_from k (i + 1) p) i (subst (λ (m : ℕ). good_at p m ≡ false) (sym e) (bad (omega (arith, e)))) ∙ e)
    (λ (m : i < j).
    if_true (good_at p i) (fault_from k (i + 1) p) i (good i (omega arith) m)
    ∙ reach p k (i + 1) j (omega (arith, m)) (omega (arith, h)) (λ q a b. good q (omega (arith, a)) b) (λ a. bad (omega (arith, a))))
    (eq-or-lt_of_le l)

-- for code: what a search through all knots finds
pub fault_found : (p : List ℕ) (r : Option ℕ)
    → MatchOption r ((k : ℕ) → 0 ≤ k → k < knots p → good_at p k ≡ true) (λ i. (0 ≤ i) × (i < knots p) × (good_at p i ≡ false) × ((k : ℕ) → 0 ≤ k → k < i → good_at p k ≡ true))
    → unwrap_or r (knots p) ≡ fault_of p
unfolding fault_of
fault_found p None h = sym (reach p (knots p) 0 (knots p) (omega arith) (omega arith) h (λ l. absurd (omega (arith, l))))
fault_found p (Some i) h = sym (reach p (knots p) 0 i (omega arith) (omega (arith, h.1)) h.3 (λ l. h.2))

-- it lies among the knots, or behind the last
from_most : (k i : ℕ) (p : List ℕ) → fault_from k i p ≤ i + k
unfolding fault_from
from_most zero i p = omega arith
from_most (suc k) i p = go (good_at p i) refl (from_most k (i + 1) p)
  where
    go : (b : Bool) → good_at p i ≡ b → fault_from k (i + 1) p ≤ i + 1 + k → (if good_at p i then fault_from k (i + 1) p else i) ≤ i + suc k
    go true e h = subst (λ (z : ℕ). z ≤ i + suc k) (sym (if_true (good_at p i) (fault_from k (i + 1) p) i e)) (omega (arith, h))
    go false e h = subst (λ (z : ℕ). z ≤ i + suc k) (sym (if_false (good_at p i) (fault_from k (i + 1) p) i e)) (omega arith)

pub fault_most : (p : List ℕ) → fault_of p ≤ knots p
unfolding fault_of
fault_most p = let h = from_most (knots p) 0 p in omega (arith, h)
