-- A test that passes at each element of a list, and so at every place.
use mathlib.Core.Path.{◌≡◌, sym, subst, ◌∙◌}
use mathlib.Core.Bool.{Bool, true}
use mathlib.Core.List.{List, [], ◌∷◌}
use Prim.Native.Nat.{ℕ, zero, suc, ◌+◌, ◌<◌}
use native.Mathlib.Nat.{add-zero, zero-add, add-suc, suc-add, le_of_suc-le-suc, not-suc-le-zero}
use lib.ListN.{length, get_or}
use Rattle.common.proofs.Choice.{and_left, and_right}
use Rattle.command_table.specs.Actions.{each}

from : {A : Type 0} (z : A) (f : ℕ → A → Bool) (xs : List A) (i : ℕ) → each f i xs ≡ true → (k : ℕ) → k < length xs → f (i + k) (get_or xs k z) ≡ true
from z f [] i t k h = absurd (not-suc-le-zero h)
from z f (x ∷ xs) i t zero h = subst (λ (m : ℕ). f m x ≡ true) (sym (add-zero i)) (and_left (f i x) (each f (suc i) xs) t)
from z f (x ∷ xs) i t (suc k) h =
    subst (λ (m : ℕ). f m (get_or xs k z) ≡ true) (suc-add i k ∙ sym (add-suc i k))
    (from z f xs (suc i) (and_right (f i x) (each f (suc i) xs) t) k (le_of_suc-le-suc h))

-- at every place of the list
pub at : {A : Type 0} (z : A) (f : ℕ → A → Bool) (xs : List A) → each f 0 xs ≡ true → (k : ℕ) → k < length xs → f k (get_or xs k z) ≡ true
at z f xs t k h = subst (λ (m : ℕ). f m (get_or xs k z) ≡ true) (zero-add k) (from z f xs 0 t k h)
