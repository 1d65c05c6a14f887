-- The first walk as a search among places, and one round of the second.
use mathlib.Core.Path.{◌≡◌, refl, ap}
use mathlib.Core.Bool.{Bool, ◌||◌}
use mathlib.Core.List.{List}
use Prim.Native.Nat.{ℕ, zero, suc, ◌+◌, ◌-◌, ◌≤◌, ◌<◌}
use native.Mathlib.Omega.{arith}
use lib.ListN.{get_or}
use lib.Dec.{eqb}
use Rattle.std.specs.Prelude.{if◌then◌else◌}
use Rattle.std.specs.List.{list_any, range_with_len}
use Rattle.loader_walk.specs.Walks.{must_rise, rises, next_diff}

-- whether a bit must rise at some place
pub rises_any : (k i : ℕ) (w s : List ℕ) → list_any (λ (j : ℕ). must_rise (get_or s j 0) (get_or w j 0)) (range_with_len i k) ≡ rises k i w s
rises_any zero i w s = refl
rises_any (suc k) i w s = ap (λ (b : Bool). must_rise (get_or s i 0) (get_or w i 0) || b) (rises_any k (i + 1) w s)

-- with one place more to look at, the walk looks at it first
pub diff_round : (n i : ℕ) (w s : List ℕ) → i < n → next_diff (n - i) i w s ≡ (if eqb (get_or s i 0) (get_or w i 0) then next_diff (n - (i + 1)) (i + 1) w s else i)
diff_round n i w s h = ap (λ (k : ℕ). next_diff k i w s) (let e : n - i ≡ suc (n - (i + 1)) = omega arith in e)

pub diff_over : (n i : ℕ) (w s : List ℕ) → n ≤ i → next_diff (n - i) i w s ≡ i
diff_over n i w s h = ap (λ (k : ℕ). next_diff k i w s) (let e : n - i ≡ 0 = omega arith in e)
