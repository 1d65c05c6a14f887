-- A table whose knots climb, the first and the last of them in range: all are in range.
use mathlib.Core.Path.{◌≡◌, refl, sym, subst, ap₂, ◌∙◌}
use mathlib.Core.Bool.{Bool, true, false, ◌&&◌}
use mathlib.Core.List.{List}
use mathlib.Core.Logic.{⊎_elim}
use Prim.Native.Nat.{ℕ, zero, suc, ◌+◌, ◌-◌, ◌≤◌, ◌<◌}
use native.Mathlib.Nat.{eq-or-lt_of_le}
use native.Mathlib.Omega.{arith}
use lib.Dec.{T, le→leb}
use lib.IntN.{ℤ, pos, negsuc}
use lib.Signed.{le_z, lt_z}
use Rattle.std.specs.List.{list_all, range_with_len}
use Rattle.common.proofs.Choice.{unlike, and_left, and_right}
use Rattle.reading_table.specs.Table.{volts_of, in_range, rising_of, knots}
use Rattle.reading_table.proofs.Order.{lt_le, le_trans}
use Rattle.reading_table.proofs.Knots.{Rising, rising_says, rising_if, is, range_low, range_high}

itself : (a : ℤ) → T (le_z a a)
itself (pos n) = le→leb n n (omega arith)
itself (negsuc n) = le→leb n n (omega arith)

and_both : (a b : Bool) → T a → T b → T (a && b)
and_both true b x y = y
and_both false b x y = absurd x

holds : {b : Bool} → b ≡ true → T b
holds e = subst T (sym e) tt

-- knot i is above the knot before
abbrev pub climbs : List ℕ → ℕ → Bool
climbs p i = lt_z (volts_of p (i - 1)) (volts_of p i)

-- the knots before knot i climb
unfoldable pub Climbs : List ℕ → ℕ → Type 0
Climbs p i = (k : ℕ) → k + 1 < i → T (lt_z (volts_of p k) (volts_of p (k + 1)))

module _ (p : List ℕ) where
  -- a walk over k knots from knot a on says of each that it climbs, and the other way round
  told_each : (a k : ℕ) → list_all (climbs p) (range_with_len a k) ≡ true → (i : ℕ) → a ≤ i → i < a + k → climbs p i ≡ true
  told_each a zero e i l h = absurd (omega (arith, l, h))
  told_each a (suc k) e i l h =
      ⊎_elim
      (λ (q : a ≡ i). subst (λ (z : ℕ). climbs p z ≡ true) q (and_left (climbs p a) (list_all (climbs p) (range_with_len (a + 1) k)) e))
      (λ (q : a < i). told_each (a + 1) k (and_right (climbs p a) (list_all (climbs p) (range_with_len (a + 1) k)) e) i (omega (arith, q)) (omega (arith, h)))
      (eq-or-lt_of_le l)

  each_told : (a k : ℕ) → ((i : ℕ) → a ≤ i → i < a + k → climbs p i ≡ true) → list_all (climbs p) (range_with_len a k) ≡ true
  each_told a zero h = refl
  each_told a (suc k) h = ap₂ ◌&&◌ (h a (omega arith) (omega arith)) (each_told (a + 1) k (λ i l m. h i (omega (arith, l)) (omega (arith, m))))

  -- a knot is at most any knot above it
  reach : (n : ℕ) → Climbs p n → (d k : ℕ) → k + d < n → T (le_z (volts_of p k) (volts_of p (k + d)))
  unfolding Climbs
  reach n c zero k h = let e : k + 0 ≡ k = omega arith in subst (λ (z : ℕ). T (le_z (volts_of p k) (volts_of p z))) (sym e) (itself (volts_of p k))
  reach n c (suc d) k h =
      let e : k + d + 1 ≡ k + suc d = omega arith in
      let low = reach n c d k (omega (arith, h)) in
      let up = lt_le (volts_of p (k + d)) (volts_of p (k + d + 1)) (c (k + d) (omega (arith, h))) in
      subst (λ (z : ℕ). T (le_z (volts_of p k) (volts_of p z))) e (le_trans (volts_of p k) (volts_of p (k + d)) (volts_of p (k + d + 1)) low up)

  upto : (n : ℕ) → Climbs p n → (k m : ℕ) → k ≤ m → m < n → T (le_z (volts_of p k) (volts_of p m))
  upto n c k m l h =
      let e : k + (m - k) ≡ m = omega (arith, l) in
      subst (λ (z : ℕ). T (le_z (volts_of p k) (volts_of p z))) e (reach n c (m - k) k (omega (arith, l, h)))

  within : (n : ℕ) → Climbs p n → T (in_range (volts_of p 0)) → T (in_range (volts_of p (n - 1))) → (i : ℕ) → i < n → T (in_range (volts_of p i))
  unfolding in_range
  within n c a b i h =
      and_both (le_z (negsuc 9999) (volts_of p i)) (le_z (volts_of p i) (pos 80000))
      (le_trans (negsuc 9999) (volts_of p 0) (volts_of p i) (range_low (volts_of p 0) a) (upto n c 0 i (omega arith) h))
      (le_trans (volts_of p i) (volts_of p (n - 1)) (pos 80000) (upto n c i (n - 1) (omega (arith, h)) (omega (arith, h))) (range_high (volts_of p (n - 1)) b))

  -- for code: what a walk to the end says, and each way to stop
  pub all_climb : (i : ℕ) → knots p ≤ i → in_range (volts_of p 0) ≡ true → in_range (volts_of p (knots p - 1)) ≡ true → Climbs p i → true ≡ rising_of p
  unfolding Rising Climbs
  all_climb i l a b c =
      let d : Climbs p (knots p) = (λ k h. c k (omega (arith, h, l))) in
      sym (rising_if p (within (knots p) d (holds a) (holds b), λ k h. c k (omega (arith, h, l))))

  no_rise : (rising_of p ≡ true → ⊥) → false ≡ rising_of p
  no_rise h = go (rising_of p) refl
    where
      go : (t : Bool) → rising_of p ≡ t → false ≡ t
      go true e = absurd (h e)
      go false e = refl

  clash : {b : Bool} → b ≡ false → T b → ⊥
  clash e t = subst T e t

  pub out_at : (i : ℕ) → i < knots p → in_range (volts_of p i) ≡ false → false ≡ rising_of p
  unfolding Rising
  out_at i h e = no_rise (λ r. clash e ((rising_says p r).0 i h))

  pub climb_told : (r : Bool) → 0 < knots p → in_range (volts_of p 0) ≡ true → in_range (volts_of p (knots p - 1)) ≡ true → r ≡ list_all (climbs p) (range_with_len 1 (knots p - 1)) → r ≡ rising_of p
  unfolding Rising Climbs
  climb_told true n a b e =
      let c : Climbs p (knots p) =
      (λ k h. let q : k + 1 - 1 ≡ k = omega arith in subst (λ (z : ℕ). T (lt_z (volts_of p z) (volts_of p (k + 1)))) q (holds (told_each 1 (knots p - 1) (sym e) (k + 1) (omega arith) (omega (arith, h)))))
      in sym (rising_if p (within (knots p) c (holds a) (holds b), c))
  climb_told false n a b e =
      no_rise (λ r. unlike (sym (each_told 1 (knots p - 1) (λ i l h.
      let q : i - 1 + 1 ≡ i = omega (arith, l) in
      is (climbs p i) (subst (λ (z : ℕ). T (lt_z (volts_of p (i - 1)) (volts_of p z))) q ((rising_says p r).1 (i - 1) (omega (arith, l, h)))))) ∙ sym e))

  pub no_knots : knots p ≡ 0 → true ≡ rising_of p
  unfolding Rising
  no_knots e = sym (rising_if p (λ i h. absurd (omega (arith, e, h)), λ i h. absurd (omega (arith, e, h))))
