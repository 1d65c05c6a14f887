-- The search: what it keeps, what it finds, and how few halvings it takes.
use mathlib.Core.Path.{◌≡◌, refl, sym, ◌∙◌, ap, subst}
use mathlib.Core.Bool.{Bool, true, false}
use mathlib.Core.Logic.{◌⊎◌, inl, inr}
use mathlib.Core.List.{List}
use Prim.Native.Nat.{ℕ, zero, suc, ◌+◌, ◌-◌, ◌*◌, ◌^◌, ◌≤◌, ◌<◌}
use native.Mathlib.Nat.{pow-suc}
use native.Mathlib.Omega.{arith}
use lib.Dec.{T, ltb}
use lib.Pow.{pow_pos}
use lib.IntN.{ℤ}
use lib.Signed.{le_z, lt_z}
use borrow.Author.Tests.{ltb-true, ltb-false}
use Rattle.std.specs.Prelude.{if◌then◌else◌}
use Rattle.reading_table.specs.Table.{volts_of, knots}
use Rattle.reading_table.specs.Search.{halving, seek_of}
use Rattle.reading_table.proofs.Order.{not_le, lt_le}
use Rattle.reading_table.proofs.Steps.{mid, halved_stop, round}

below? : (i n : ℕ) → (i < n) ⊎ (n ≤ i)
below? i n = go (ltb i n) refl
  where
    go : (t : Bool) → ltb i n ≡ t → (i < n) ⊎ (n ≤ i)
    go true e = inl (ltb-true i n e)
    go false e = inr (ltb-false i n e)

module _ (p : List ℕ) (x : ℤ) where
  -- what holds of the two ends, and of either half of what holds, holds of the knot that is found and the next
  pub kept : (P : ℕ → ℕ → Type 0)
      → ((lo hi : ℕ) (b : Bool) → lo + 1 < hi → le_z (volts_of p (mid lo hi)) x ≡ b → P lo hi → P (if b then mid lo hi else lo) (if b then hi else mid lo hi))
      → (k lo hi : ℕ) → lo < hi → hi - lo ≤ suc k → P lo hi → P (halving k p x lo hi) (halving k p x lo hi + 1)
  unfolding halving
  kept P half zero lo hi l f h = subst (λ (z : ℕ). P lo z) (let e : hi ≡ lo + 1 = omega (arith, l, f) in e) h
  kept P half (suc k) lo hi l f h = at (below? (lo + 1) hi) (λ lo hi. kept P half k lo hi)
    where
      step : lo + 1 < hi → ((lo hi : ℕ) → lo < hi → hi - lo ≤ suc k → P lo hi → P (halving k p x lo hi) (halving k p x lo hi + 1))
          → (b : Bool) → le_z (volts_of p (mid lo hi)) x ≡ b → P (halving (suc k) p x lo hi) (halving (suc k) p x lo hi + 1)
      step m ih true e = subst (λ (z : ℕ). P z (z + 1)) (sym (round k p x lo hi true m e)) (ih (mid lo hi) hi (omega (arith, m)) (omega (arith, m, f)) (half lo hi true m e h))
      step m ih false e = subst (λ (z : ℕ). P z (z + 1)) (sym (round k p x lo hi false m e)) (ih lo (mid lo hi) (omega (arith, m)) (omega (arith, m, f)) (half lo hi false m e h))

      at : (lo + 1 < hi) ⊎ (hi ≤ lo + 1) → ((lo hi : ℕ) → lo < hi → hi - lo ≤ suc k → P lo hi → P (halving k p x lo hi) (halving k p x lo hi + 1))
          → P (halving (suc k) p x lo hi) (halving (suc k) p x lo hi + 1)
      at (inl m) ih = step m ih (le_z (volts_of p (mid lo hi)) x) refl
      at (inr m) ih =
          let e : hi ≡ lo + 1 = omega (arith, l, m) in
          subst (λ (z : ℕ). P z (z + 1)) (sym (halved_stop (suc k) p x lo hi m)) (subst (λ (z : ℕ). P lo z) e h)

  -- knots a and b of n, with x between them; b is the last of n, or above x
  pub record Around (n a b : ℕ) : Type 0 where
    pub within : b < n
    pub from : T (le_z (volts_of p a) x)
    pub to : T (le_z x (volts_of p b))
    pub ends : (b + 1 ≡ n) ⊎ T (lt_z x (volts_of p b))

  halves : (n lo hi : ℕ) (b : Bool) → lo + 1 < hi → le_z (volts_of p (mid lo hi)) x ≡ b → Around n lo hi → Around n (if b then mid lo hi else lo) (if b then hi else mid lo hi)
  halves n lo hi true m e a = record { within = a.within; from = subst T (sym e) tt; to = a.to; ends = a.ends }
  halves n lo hi false m e a =
      let l : T (lt_z x (volts_of p (mid lo hi))) = not_le (volts_of p (mid lo hi)) x e in
      record { within = omega (arith, m, a.within); from = a.from; to = lt_le x (volts_of p (mid lo hi)) l; ends = inr l }

  -- where x is between the first and the last knot, the search finds a knot that x is between and the next: nothing need rise
  pub seek_brackets : 2 ≤ knots p → T (le_z (volts_of p 0) x) → T (le_z x (volts_of p (knots p - 1))) → Around (knots p) (seek_of p x) (seek_of p x + 1)
  unfolding seek_of
  seek_brackets h a b =
      kept (Around (knots p)) (halves (knots p)) (knots p) 0 (knots p - 1) (omega (arith, h)) (omega arith)
      (record { within = omega (arith, h); from = a; to = b; ends = inl (omega (arith, h)) })

  -- two ends that are at most 2 ^ k apart take at most k halvings: more change nothing
  pub few_halvings : (k j lo hi : ℕ) → hi - lo ≤ 2 ^ k → halving (k + j) p x lo hi ≡ halving k p x lo hi
  unfolding halving
  few_halvings zero j lo hi f = let m : hi ≤ lo + 1 = omega (arith, f) in halved_stop (0 + j) p x lo hi m
  few_halvings (suc k) j lo hi f = at (below? (lo + 1) hi) (λ lo hi. few_halvings k j lo hi)
    where
      two : hi - lo ≤ 2 ^ k * 2
      two = subst (λ (z : ℕ). hi - lo ≤ z) (pow-suc 2 k) f

      s : suc k + j ≡ suc (k + j)
      s = omega arith

      step : lo + 1 < hi → ((lo hi : ℕ) → hi - lo ≤ 2 ^ k → halving (k + j) p x lo hi ≡ halving k p x lo hi)
          → (b : Bool) → le_z (volts_of p (mid lo hi)) x ≡ b → halving (suc k + j) p x lo hi ≡ halving (suc k) p x lo hi
      step m ih true e = ap (λ (z : ℕ). halving z p x lo hi) s ∙ round (k + j) p x lo hi true m e ∙ ih (mid lo hi) hi (omega (arith, m, two)) ∙ sym (round k p x lo hi true m e)
      step m ih false e = ap (λ (z : ℕ). halving z p x lo hi) s ∙ round (k + j) p x lo hi false m e ∙ ih lo (mid lo hi) (omega (arith, m, two)) ∙ sym (round k p x lo hi false m e)

      at : (lo + 1 < hi) ⊎ (hi ≤ lo + 1) → ((lo hi : ℕ) → hi - lo ≤ 2 ^ k → halving (k + j) p x lo hi ≡ halving k p x lo hi) → halving (suc k + j) p x lo hi ≡ halving (suc k) p x lo hi
      at (inl m) ih = step m ih (le_z (volts_of p (mid lo hi)) x) refl
      at (inr m) ih = halved_stop (suc k + j) p x lo hi m ∙ sym (halved_stop (suc k) p x lo hi m)

  -- so the search is one of k halvings in a table of at most 2 ^ k knots
  pub seek_few : (k : ℕ) → knots p ≤ 2 ^ k → seek_of p x ≡ halving k p x 0 (knots p - 1)
  unfolding seek_of
  seek_few k h = at (below? (knots p) k)
    where
      at : (knots p < k) ⊎ (k ≤ knots p) → halving (knots p) p x 0 (knots p - 1) ≡ halving k p x 0 (knots p - 1)
      at (inr m) =
          let e : knots p ≡ k + (knots p - k) = omega (arith, m) in
          ap (λ (z : ℕ). halving z p x 0 (knots p - 1)) e ∙ few_halvings k (knots p - k) 0 (knots p - 1) (omega (arith, h))
      at (inl m) = sym
          (let e : k ≡ knots p + (k - knots p) = omega (arith, m) in
          ap (λ (z : ℕ). halving z p x 0 (knots p - 1)) e ∙ few_halvings (knots p) (k - knots p) 0 (knots p - 1) (omega (arith, self (knots p))))
        where
          self : (n : ℕ) → n ≤ 2 ^ n
          self zero = omega arith
          self (suc n) = let i = self n in subst (λ (z : ℕ). suc n ≤ z) (sym (pow-suc 2 n)) (omega (arith, i, pow_pos n))
