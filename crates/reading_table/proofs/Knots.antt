-- What the tests of a table say of each knot.
use mathlib.Core.Path.{◌≡◌, refl, sym, ap₂, subst}
use mathlib.Core.Bool.{Bool, true, false, not, ◌&&◌}
use mathlib.Core.Logic.{⊎_elim}
use mathlib.Core.List.{List}
use Prim.Native.Nat.{ℕ, zero, suc, ◌+◌, ◌-◌, ◌*◌, ◌≤◌, ◌<◌, zero-le}
use native.Mathlib.Nat.{eq-or-lt_of_le}
use native.Mathlib.Omega.{arith}
use lib.Dec.{T, ltb, eqb, leb→le, ltb→lt, nltb→le}
use lib.IntN.{ℤ, pos, negsuc, nat_abs}
use lib.ListN.{get_or}
use lib.Signed.{le_z, lt_z}
use Rattle.common.proofs.Choice.{if_ind}
use borrow.Author.Tests.{ne_eqb}
use Rattle.std.specs.Prelude.{if◌then◌else◌}
use Rattle.reading_table.specs.Table.{signed16, word16, volts_of, tenths_of, in_range, good_at, rising_from, rising_of, knots}

-- tests
yes : {b : Bool} → b ≡ true → T b
yes e = subst T (sym e) tt

pub is : (b : Bool) → T b → b ≡ true
is true t = refl
is false t = absurd t

pub and_holds : (a b : Bool) → (a && b) ≡ true → T a × T b
and_holds true b e = (tt, yes e)
and_holds false b e = absurd (clash e)
  where
    clash : false ≡ true → ⊥
    clash e = let z : ◌≡◌ {A = ℕ} 0 1 = cc in omega (arith, z)

-- what `rising` says of each knot
good_from : (k i : ℕ) (p : List ℕ) → rising_from k i p ≡ true → (j : ℕ) → i ≤ j → j < i + k → good_at p j ≡ true
unfolding rising_from
good_from zero i p e j l m = let z : ◌≡◌ {A = ℕ} 0 1 = omega (arith, l, m) in absurd (clash z)
  where
    clash : ◌≡◌ {A = ℕ} 0 1 → ⊥
    clash z = omega (arith, z)
good_from (suc k) i p e j l m =
    let g = and_holds (good_at p i) (rising_from k (i + 1) p) e in
    ⊎_elim
    (λ (q : i ≡ j). subst (λ (z : ℕ). good_at p z ≡ true) q (is (good_at p i) g.0))
    (λ (q : i < j). good_from k (i + 1) p (is (rising_from k (i + 1) p) g.1) j (omega (arith, q)) (omega (arith, m))) (eq-or-lt_of_le l)

from_good : (k i : ℕ) (p : List ℕ) → ((j : ℕ) → i ≤ j → j < i + k → good_at p j ≡ true) → rising_from k i p ≡ true
unfolding rising_from
from_good zero i p h = refl
from_good (suc k) i p h = ap₂ ◌&&◌ (h i (omega arith) (omega arith)) (from_good k (i + 1) p (λ j l m. h j (omega (arith, l)) (omega (arith, m))))

good_of : (p : List ℕ) → rising_of p ≡ true → (i : ℕ) → i < knots p → good_at p i ≡ true
unfolding rising_of
good_of p e i h = good_from (knots p) 0 p e i (omega arith) (omega (arith, h))

range_of : (p : List ℕ) (i : ℕ) → good_at p i ≡ true → T (in_range (volts_of p i))
unfolding good_at
range_of p i e = go (eqb i 0) e
  where
    go : (t : Bool) → (if t then in_range (volts_of p i) else (in_range (volts_of p i) && lt_z (volts_of p (i - 1)) (volts_of p i))) ≡ true → T (in_range (volts_of p i))
    go true e = yes e
    go false e = (and_holds (in_range (volts_of p i)) (lt_z (volts_of p (i - 1)) (volts_of p i)) e).0

rise_of : (p : List ℕ) (i : ℕ) → good_at p (i + 1) ≡ true → T (lt_z (volts_of p i) (volts_of p (i + 1)))
unfolding good_at
rise_of p i e =
    let n : i + 1 ≡ 0 → ⊥ = (λ q. omega (arith, q)) in
    let g : (in_range (volts_of p (i + 1)) && lt_z (volts_of p (i + 1 - 1)) (volts_of p (i + 1))) ≡ true = subst (λ (t : Bool). (if t then in_range (volts_of p (i + 1)) else (in_range (volts_of p (i + 1)) && lt_z (volts_of p (i + 1 - 1)) (volts_of p (i + 1)))) ≡ true) (ne_eqb (i + 1) 0 n) e in
    let z : i + 1 - 1 ≡ i = omega arith in
    subst (λ (m : ℕ). T (lt_z (volts_of p m) (volts_of p (i + 1)))) z (and_holds (in_range (volts_of p (i + 1))) (lt_z (volts_of p (i + 1 - 1)) (volts_of p (i + 1))) g).1

unfoldable pub Rising : List ℕ → Type 0
Rising p = ((i : ℕ) → i < knots p → T (in_range (volts_of p i))) × ((i : ℕ) → i + 1 < knots p → T (lt_z (volts_of p i) (volts_of p (i + 1))))

pub rising_says : (p : List ℕ) → rising_of p ≡ true → Rising p
unfolding Rising
rising_says p e = (λ i h. range_of p i (good_of p e i h), λ i h. rise_of p i (good_of p e (i + 1) h))

good_at_lem : (p : List ℕ) → Rising p → (i : ℕ) → i < knots p → good_at p i ≡ true
unfolding Rising good_at
good_at_lem p r zero h = is (in_range (volts_of p 0)) (r.0 0 h)
good_at_lem p r (suc i) h =
    let e : suc i - 1 ≡ i = omega arith in
    let f : i + 1 ≡ suc i = omega arith in
    simp (ne_eqb (suc i) 0 (λ q. omega (arith, q)), e)
    (ap₂ ◌&&◌ (is (in_range (volts_of p (suc i))) (r.0 (suc i) h)) (is (lt_z (volts_of p i) (volts_of p (suc i))) (subst (λ (m : ℕ). T (lt_z (volts_of p i) (volts_of p m))) f (r.1 i (omega (arith, h))))))

pub rising_if : (p : List ℕ) → Rising p → rising_of p ≡ true
unfolding rising_of
rising_if p r = from_good (knots p) 0 p (λ j l m. good_at_lem p r j (omega (arith, m)))

-- sizes
pub range_size : (v : ℤ) → T (le_z (negsuc 9999) v) → T (le_z v (pos 80000)) → nat_abs v ≤ 80000
range_size (pos n) a b = leb→le n 80000 b
range_size (negsuc n) a b = let l = leb→le n 9999 a in omega (arith, l)

pub range_low : (v : ℤ) → T (in_range v) → T (le_z (negsuc 9999) v)
unfolding in_range
range_low v h = (and_holds (le_z (negsuc 9999) v) (le_z v (pos 80000)) (is (in_range v) h)).0

pub range_high : (v : ℤ) → T (in_range v) → T (le_z v (pos 80000))
unfolding in_range
range_high v h = (and_holds (le_z (negsuc 9999) v) (le_z v (pos 80000)) (is (in_range v) h)).1

pub in_range_size : (v : ℤ) → T (in_range v) → nat_abs v ≤ 80000
unfolding in_range
in_range_size v h = let b = and_holds (le_z (negsuc 9999) v) (le_z v (pos 80000)) (is (in_range v) h) in range_size v b.0 b.1

small : (u : ℕ) → nat_abs (signed16 u) ≤ 32768
unfolding signed16
small u = go (ltb u 32768) refl
  where
    go : (t : Bool) → ltb u 32768 ≡ t → nat_abs (if t then pos u else negsuc (65535 - u)) ≤ 32768
    go true e = let l = ltb→lt u 32768 (yes e) in omega (arith, l)
    go false e = let l = nltb→le u 32768 (subst (λ (t : Bool). T (not t)) (sym e) tt) in omega (arith, l)

pub tenths_size : (p : List ℕ) (i : ℕ) → nat_abs (tenths_of p i) ≤ 32768
unfolding tenths_of
tenths_size p i = if_ind (λ (z : ℤ). nat_abs z ≤ 32768) (ltb i (knots p)) (signed16 (word16 (get_or p (6 * i + 4) 0) (get_or p (6 * i + 5) 0))) (pos 0) (λ _. small (word16 (get_or p (6 * i + 4) 0) (get_or p (6 * i + 5) 0))) (λ _. zero-le)
